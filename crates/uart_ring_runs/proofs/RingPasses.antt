-- What each call of the rings themselves does in a session.
use Rattle.uart_ring_runs.proofs.Names.{◌≡◌, ◌≢◌, ℕ, List, [], ◌++◌, append-nil, refl, sym, ◌∙◌, ap, bit_and, bit_or, or_zero_r, saved_lsr}
use Rattle.uart_ring_runs.proofs.Names.{saved_msr, Access, settings_of, MachineStep, Modes, passed-mark, IsOpen, PassedBlocks, RingFields}
use Rattle.uart_ring_runs.proofs.Names.{ring_fields, free, waiting, rts_at, data_written, data_read, untold_line, untold_modem, LosesOnly}
use Rattle.uart_ring_runs.proofs.Names.{with_accepted, adjusts_lose_nothing, RingCall, RingAnswer, RingState, ring_machine, IsOfRings}
use Rattle.uart_ring_runs.proofs.Names.{RingCallStep, to_send, to_take, gone_in, to_send_with, IsWithinRingSession}
use Rattle.uart_spec.specs.declared.registers.line_status.TheConstants.LSR
use Rattle.uart_spec.specs.declared.registers.modem_status.TheConstants.MSR
use Rattle.uart_ring_runs.specs.declared.call.RingCall.TheVariants as call
use Rattle.uart_ring_runs.proofs.{RingBlocks.MakesBlocks, RingBlocks.in_blocks, RingMeanings.Meant, RingMeanings.meaning_of}
use Rattle.uart_ring_runs.proofs.RingRts.{modes_at, InRingSession, Came, came, came_blocks, came_rts}

-- what is still to be told of LSR and MSR
abbrev pub untold_line_of : RingState → ℕ
untold_line_of s = untold_line (ring_fields s)

abbrev pub untold_modem_of : RingState → ℕ
untold_modem_of s = untold_modem (ring_fields s)

-- from s to t these accesses were made: this holds of what they wrote to DATA, and then of what waits; what was taken or dropped
-- and what is left was there or was read from DATA; the driver has the same settings; and what the statuses showed is still to be
-- told, unless it was told
pub record RingPasses (x : Modes) (Sent : List ℕ → Type 0) (NoLine NoModem : Type 0) (s t : RingState) (left : List ℕ) : Type 0 where
  pub made : List Access
  pub open_modes : IsOpen (modes_at x t)
  pub passed : PassedBlocks (modes_at x t) (ring_machine s) (ring_machine t) made (data_written made) (data_read made)
  pub settings : settings_of (ring_fields t).driver ≡ settings_of (ring_fields s).driver
  pub sent : Sent (data_written made ++ to_send t)
  pub received : left ++ to_take t ≡ to_take s ++ data_read made
  pub line : NoLine → untold_line_of t ≡ bit_or (untold_line_of s) (saved_lsr made)
  pub modem : NoModem → untold_modem_of t ≡ bit_or (untold_modem_of s) (saved_msr made)

-- what waited, as the call changes it
abbrev pub InLine : RingCall → RingAnswer → RingState → List ℕ → Type 0
InLine c a s bytes = bytes ≡ to_send_with c a (to_send s)

-- ---- a call

ring_passes_came : (x : Modes) (N M : Type 0) (change : List ℕ → List ℕ) (u : List ℕ) (line modem : ℕ) (s t : RingState)
    (list : List Access) → Came x (ring_machine s) (ring_machine t) list (data_written list) (data_read list) →
    LosesOnly change u line modem (ring_fields s) list (ring_fields t) → (N → line ≡ 0) → (M → modem ≡ 0) →
    RingPasses x (λ bytes. bytes ≡ change (to_send s)) N M s t u
ring_passes_came x N M change u line modem s t list c loses no_line no_modem = record {
  made = list;
  open_modes = c.open_modes;
  passed = c.passed;
  settings = loses.settings;
  sent = loses.sent;
  received = loses.received;
  line = λ n. sym (ap (λ v. bit_or (bit_and v LSR.LINE_ERRORS.0) (untold_line_of t)) (no_line n)) ∙ loses.line_told;
  modem = λ m. sym (ap (λ v. bit_or (bit_and v MSR.CHANGES.0) (untold_modem_of t)) (no_modem m)) ∙ loses.modem_told;
}

-- a usual call
ring_passes_meant : (x : Modes) (s t : RingState) (c : RingCall) (a : RingAnswer) → InRingSession x s → Meant MachineStep c a s t →
    RingPasses x (InLine c a s) (c ≢ call.TakeLine) (c ≢ call.TakeModem) s t (gone_in c a (to_take s))
ring_passes_meant x s t c a w k =
    ring_passes_came x _ _ (to_send_with c a) _ k.line k.modem s t k.list
    (came_blocks x s t k.list w (k.walks MakesBlocks in_blocks) k.path) k.loses k.no_line k.no_modem

-- no access is made, and the fields stay
pub ring_passes_still : (x : Modes) (N M : Type 0) (s t : RingState) → Came x (ring_machine s) (ring_machine t) [] [] [] →
    ring_fields t ≡ ring_fields s → RingPasses x (λ bytes. bytes ≡ to_send s ++ []) N M s t []
ring_passes_still x N M s t c same = record {
  made = [];
  open_modes = c.open_modes;
  passed = c.passed;
  settings = ap (λ (f : RingFields). settings_of f.driver) same;
  sent = ap waiting same ∙ sym (append-nil (to_send s));
  received = ap (λ (f : RingFields). f.receive.items) same ∙ sym (append-nil (to_take s));
  line = λ n. ap untold_line same ∙ sym (or_zero_r (untold_line_of s));
  modem = λ m. ap untold_modem same ∙ sym (or_zero_r (untold_modem_of s));
}

-- each call
pub ring_passes_call : (x : Modes) (s t : RingState) (c : RingCall) (a : RingAnswer) → InRingSession x s → IsOfRings c →
    IsWithinRingSession s c → RingCallStep s c a t →
    RingPasses x (InLine c a s) (c ≢ call.TakeLine) (c ≢ call.TakeModem) s t (gone_in c a (to_take s))
ring_passes_call x s t (call.AdjustRts marks) a w o i h =
    ring_passes_came x _ _ (with_accepted []) _ 0 0 s t h.did.list
    (came_rts x s t (rts_at marks (free (ring_fields s).receive)) h.did.list w i h.did.does h.did.path)
    (adjusts_lose_nothing marks (ring_fields s) h.did.list (ring_fields t) h.did.does) (λ n. refl) (λ m. refl)
ring_passes_call x s t (call.Driver c) a w o i h = absurd o
ring_passes_call x s t call.Next a w o i h =
    let m = ring_machine s in
    let p = passed-mark (modes_at x s) m w.open_modes.loopback w.stands.sound w.stands.modes in
    ring_passes_still x _ _ s t (came x m.chip.latches.mcr m (ring_machine t) [] [] [] w.open_modes
    (record { takes = []; bytes = refl; passed = rw h.machine p })) h.rings
ring_passes_call x s t other a w o i h = ring_passes_meant x s t other a w (meaning_of s t other a tt h)
