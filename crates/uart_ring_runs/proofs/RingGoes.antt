-- What the calls of a session of rings do in turn: those of the rings themselves, and those of the driver under them.
use Rattle.uart_ring_runs.proofs.Names.{◌≡◌, ◌≢◌, ◌⊎◌, ℕ, Bool, List, [], ◌∷◌, ◌++◌, append_assoc, append-nil, inl, inr, refl, sym}
use Rattle.uart_ring_runs.proofs.Names.{◌∙◌, ap, subst, bit_and, bit_or, or_zero_r, saved_lsr, saved_msr, Access}
use Rattle.uart_ring_runs.proofs.Names.{Settings, Fields, fields, inner_of, Call, Answer, MachineStep}
use Rattle.uart_ring_runs.proofs.Names.{or_assoc, Modes, fixed, passed-refl, IsOpen, PassedBlocks, stands-after, BurstsFit, State, CallStep}
use Rattle.uart_ring_runs.proofs.Names.{GoesOn, IsWithinSession, reported_by, received_by, keeps_size, fits_by, fits_kept, InSession}
use Rattle.uart_ring_runs.proofs.Names.{session_closed, GoOn, go_within, passed_onwards, same_fifo, RingFields, ring_fields, waiting}
use Rattle.uart_ring_runs.proofs.Names.{data_written, data_read, RingCall, RingAnswer, RingState, under, ring_machine, DriverCalled}
use Rattle.uart_ring_runs.proofs.Names.{IsOfRings, RingCallStep, RingLink, RingChain, to_send, to_take, queued_by, taken_by, queued, taken}
use Rattle.uart_ring_runs.proofs.Names.{gone_in, gone_by, gone, KeepsOrder, AllKeepOrder, ReceivesNothing, TakesInTurn, AllTakeInTurn}
use Rattle.uart_ring_runs.proofs.Names.{IsWithinRingSession, AllWithinRingSession, NeitherIs, NoneIs}
use Rattle.uart_spec.specs.declared.registers.line_status.TheConstants.LSR
use Rattle.uart_spec.specs.declared.registers.modem_status.TheConstants.MSR
use Rattle.uart_call.specs.declared.call.Call.TheVariants as driver
use Rattle.uart_run.specs.Progress.{KeepsChecks}
use Rattle.uart_run.proofs.SizeKept.{checks_left}
use Rattle.uart_ring.proofs.RegisterBits.{more_saved, saved_lsr-append, saved_lsr-within, saved_msr-append, saved_msr-within}
use Rattle.uart_ring_runs.specs.declared.call.RingCall.TheVariants as call
use Rattle.uart_ring_runs.proofs.{RingMeanings.in_order, RingLasts.driver_step, RingLasts.first_within, RingRts.modes_at}
use Rattle.uart_ring_runs.proofs.{RingRts.begins_session}
use Rattle.uart_ring_runs.proofs.RingPasses.{RingPasses, InLine, ring_passes_call, untold_line_of, untold_modem_of}

-- whether the driver of the rings checks CTS
abbrev pub checks_of : Fields → Bool
checks_of f = f.config.check_cts_before_sending

-- from s to t these accesses were made, which wrote these bytes to the transmitter and read those; this holds of what was written,
-- and then of what waits; what was taken or dropped and what is left was there or was read, if all was taken in turn; and what the
-- statuses showed is still to be told, unless it was told. The modes that the session has come to cut alike
pub record RingGoes (x : Modes) (Sent : List ℕ → Type 0) (Turn NoLine NoModem : Type 0) (s t : RingState) (left : List ℕ) : Type 0 where
  pub modes : Modes
  pub same : fixed modes ≡ fixed x
  pub open_modes : IsOpen modes
  pub made : List Access
  pub written : List ℕ
  pub read : List ℕ
  pub passed : PassedBlocks modes (ring_machine s) (ring_machine t) made written read
  pub fifo : (ring_fields t).driver.fifo ≡ (ring_fields s).driver.fifo
  pub fits : BurstsFit (under s) → BurstsFit (under t)
  pub checks : checks_of (ring_fields t).driver ≡ checks_of (ring_fields s).driver
  pub sent : Sent (written ++ to_send t)
  pub received : Turn → left ++ to_take t ≡ to_take s ++ read
  pub line : NoLine → untold_line_of t ≡ bit_or (untold_line_of s) (saved_lsr made)
  pub modem : NoModem → untold_modem_of t ≡ bit_or (untold_modem_of s) (saved_msr made)

-- if no call overtakes or drops, what waited and what was queued
abbrev pub Ordered : Type 0 → (queued : List ℕ) → RingState → List ℕ → Type 0
Ordered Order queued s bytes = Order → bytes ≡ to_send s ++ queued

-- no such call is this one
abbrev pub IsNeither : RingCall → RingCall → RingCall → Type 0
IsNeither c d call = (call ≢ c) × (call ≢ d)

-- the driver's calls that tell what the rings tell
abbrev pub line_of_driver : RingCall
line_of_driver = call.Driver driver.Lsr

abbrev pub modem_of_driver : RingCall
modem_of_driver = call.Driver driver.Msr

-- what a call does
abbrev pub CallGoes : Modes → RingCall → RingAnswer → RingState → RingState → Type 0
CallGoes x c a s t =
    RingGoes x (InLine c a s) (TakesInTurn c (to_take s)) (IsNeither call.TakeLine line_of_driver c)
    (IsNeither call.TakeModem modem_of_driver c) s t (gone_in c a (to_take s))

-- ---- a call of the rings themselves

of_rings : (x : Modes) (s t : RingState) (c : RingCall) (a : RingAnswer) →
    RingPasses x (InLine c a s) (c ≢ call.TakeLine) (c ≢ call.TakeModem) s t (gone_in c a (to_take s)) → CallGoes x c a s t
of_rings x s t c a p = record {
  modes = modes_at x t;
  same = refl;
  open_modes = p.open_modes;
  made = p.made;
  written = data_written p.made;
  read = data_read p.made;
  passed = p.passed;
  fifo = ap (λ (settings : Settings). settings.fifo) p.settings;
  fits = fits_by (under s) (under t) (ap (λ (settings : Settings). settings.size) p.settings) p.passed.passed.went.sends.size;
  checks = ap (λ (settings : Settings). settings.checks) p.settings;
  sent = p.sent;
  received = λ turn. p.received;
  line = λ n. p.line n.0;
  modem = λ n. p.modem n.0;
}

-- ---- a call of the driver

-- it keeps whether CTS is checked, since no session goes on through an `init`
goes_keeps : (W : Type 0) (c : Call) → GoesOn W c → KeepsChecks c
goes_keeps W (driver.Init config) i = absurd i
goes_keeps W (driver.InitWith config setup) i = absurd i
goes_keeps W other i = tt

driver_checks : (W : Type 0) (s t : State) (c : Call) (a : Answer) → GoesOn W c → CallStep s c a t →
    checks_of (fields (inner_of t)) ≡ checks_of (fields (inner_of s))
driver_checks W s t driver.Next a i h = ap (λ (g : Fields). checks_of g) h.driver
driver_checks W s t c a i h =
    checks_left c (goes_keeps W c i) h.outcome (fields (inner_of s)) h.did.list (fields (inner_of t)) h.did.does

-- one that receives nothing has received nothing
none_received : (c : Call) (a : Answer) → ReceivesNothing c → received_by c a ≡ []
none_received driver.TryReceive a n = absurd n
none_received (driver.Receive slots) a n = absurd n
none_received (driver.ReceiveExact slots) a n = absurd n
none_received (driver.ReceiveWithErrors slots) a n = absurd n
none_received (driver.Read slots) a n = absurd n
none_received other a n = refl

-- what it received comes after what is in the receive ring
in_turn : (got there : List ℕ) → (got ≡ []) ⊎ (there ≡ []) → got ++ there ≡ there ++ got
in_turn got there (inl none) = rw none (sym (append-nil there))
in_turn got there (inr empty) = rw empty (append-nil got)

received_in_turn : (c : Call) (a : Answer) (there : List ℕ) → ReceivesNothing c ⊎ (there ≡ []) →
    received_by c a ++ there ≡ there ++ received_by c a
received_in_turn c a there (inl none) = in_turn (received_by c a) there (inl (none_received c a none))
received_in_turn c a there (inr empty) = in_turn (received_by c a) there (inr empty)

driver_goes : (x : Modes) (s t : RingState) (c : Call) (a : RingAnswer) → InSession x (under s) → IsWithinSession (under s) c →
    DriverCalled MachineStep c a s t → CallGoes x (call.Driver c) a s t
driver_goes x s t c a w i h =
    let k : GoOn IsWithinSession x.cut = go_within x.cut in
    let step = driver_step s t c a h in
    let g = k.go x (under s) (under t) c h.outcome refl w i step in
    let p = g.passes in
    let sends : to_send t ≡ to_send s = ap waiting h.rings in
    let there : to_take t ≡ to_take s = ap (λ (f : RingFields). f.receive.items) h.rings in
    let noted_line : (ring_fields t).line ≡ (ring_fields s).line = ap (λ (f : RingFields). f.line) h.rings in
    let noted_modem : (ring_fields t).modem ≡ (ring_fields s).modem = ap (λ (f : RingFields). f.modem) h.rings in
    rw h.answered (record {
      modes = g.modes;
      same = g.same;
      open_modes = g.open_modes;
      made = p.made;
      written = reported_by c h.outcome;
      read = received_by c h.outcome;
      passed = p.passed;
      fifo = p.fifo;
      fits = fits_kept (under s) (under t) c h.outcome step (keeps_size (under s) c (session_closed x (under s) w));
      checks = driver_checks _ (under s) (under t) c h.outcome i step;
      sent = ap (λ zs. reported_by c h.outcome ++ zs) sends;
      received = λ turn. ap (λ zs. received_by c h.outcome ++ zs) there ∙ received_in_turn c h.outcome (to_take s) turn;
      line = λ n. (λ i. bit_and (bit_or (noted_line i) (p.lsr (λ e. n.1 (ap (λ d. call.Driver d) e)) i)) LSR.LINE_ERRORS.0)
          ∙ more_saved (ring_fields s).line (ring_fields s).driver.lsr (saved_lsr p.made) LSR.LINE_ERRORS.0 (saved_lsr-within p.made);
      modem = λ n. (λ i. bit_and (bit_or (noted_modem i) (p.msr (λ e. n.1 (ap (λ d. call.Driver d) e)) i)) MSR.CHANGES.0)
          ∙ more_saved (ring_fields s).modem (ring_fields s).driver.msr (saved_msr p.made) MSR.CHANGES.0 (saved_msr-within p.made);
    })

-- ---- each call

of_own : (x : Modes) (s t : RingState) (c : RingCall) (a : RingAnswer) → InSession x (under s) → IsOfRings c →
    IsWithinRingSession s c → RingCallStep s c a t → CallGoes x c a s t
of_own x s t c a w o i h = of_rings x s t c a (ring_passes_call x s t c a (begins_session x s w) o i h)

pub ring_goes_call : (x : Modes) (s t : RingState) (c : RingCall) (a : RingAnswer) → InSession x (under s) → IsWithinRingSession s c →
    RingCallStep s c a t → CallGoes x c a s t
ring_goes_call x s t (call.Driver c) a w i h = driver_goes x s t c a w i h
ring_goes_call x s t other a w i h = of_own x s t other a w tt i h

pub in_session-gone : (x : Modes) (Sent : List ℕ → Type 0) (T N M : Type 0) (s t : RingState) (u : List ℕ) → InSession x (under s) →
    (g : RingGoes x Sent T N M s t u) → InSession g.modes (under t)
in_session-gone x Sent T N M s t u w g = record {
  open_modes = g.open_modes;
  stands = stands-after g.modes (ring_machine s) (ring_machine t) _ _ _ g.passed.passed;
  fifo = g.fifo ∙ (w.fifo ∙ sym (same_fifo x g.modes g.same));
  fits = g.fits w.fits;
}

-- ---- calls in turn

-- only a call that clears the receive ring drops what was received
all_returned : (c : RingCall) (a : RingAnswer) (there : List ℕ) → c ≢ call.ClearReceive → gone_in c a there ≡ taken_by c a
all_returned call.ClearReceive a there other = absurd (other refl)
all_returned c a there other = refl

pub gone_taken : (links : List RingLink) → NoneIs call.ClearReceive links → gone links ≡ taken links
gone_taken [] none = refl
gone_taken (link ∷ links) none =
    λ i. all_returned link.call link.answer (to_take link.before) none.0 i ++ gone_taken links none.1 i

ring_goes-trans : (x : Modes) (A B T U N M O P : Type 0) (s t u : RingState) (q p e f : List ℕ) →
    (a : RingGoes x (Ordered A q s) T N M s t e) → RingGoes a.modes (Ordered B p t) U O P t u f →
    RingGoes x (Ordered (A × B) (q ++ p) s) (T × U) (N × O) (M × P) s u (e ++ f)
ring_goes-trans x A B T U N M O P s t u q p e f a b = record {
  modes = b.modes;
  same = b.same ∙ a.same;
  open_modes = b.open_modes;
  made = a.made ++ b.made;
  written = a.written ++ b.written;
  read = a.read ++ b.read;
  passed = passed_onwards a.modes b.modes (ring_machine s) (ring_machine t) (ring_machine u) a.made b.made _ _ _ _ b.same
      a.passed b.passed;
  fifo = b.fifo ∙ a.fifo;
  fits = λ fits. b.fits (a.fits fits);
  checks = b.checks ∙ a.checks;
  sent = λ o. append_assoc a.written b.written (to_send u) ∙ (ap (λ zs. a.written ++ zs) (b.sent o.1) ∙
      (sym (append_assoc a.written (to_send t) p) ∙ (ap (λ zs. zs ++ p) (a.sent o.0) ∙ append_assoc (to_send s) q p)));
  received = λ turn. append_assoc e f (to_take u) ∙ (ap (λ zs. e ++ zs) (b.received turn.1) ∙
      (sym (append_assoc e (to_take t) b.read) ∙ (ap (λ zs. zs ++ b.read) (a.received turn.0) ∙ append_assoc (to_take s) a.read b.read)));
  line = λ n. b.line n.1 ∙ (ap (λ v. bit_or v (saved_lsr b.made)) (a.line n.0) ∙
      (or_assoc (untold_line_of s) (saved_lsr a.made) (saved_lsr b.made) ∙
      ap (bit_or (untold_line_of s)) (sym (saved_lsr-append a.made b.made))));
  modem = λ m. b.modem m.1 ∙ (ap (λ v. bit_or v (saved_msr b.made)) (a.modem m.0) ∙
      (or_assoc (untold_modem_of s) (saved_msr a.made) (saved_msr b.made) ∙
      ap (bit_or (untold_modem_of s)) (sym (saved_msr-append a.made b.made))));
}

-- a call, if it keeps the order
ordered_call : (x : Modes) (T N M : Type 0) (s t : RingState) (c : RingCall) (a : RingAnswer) (u : List ℕ) →
    (g : RingGoes x (InLine c a s) T N M s t u) → RingGoes x (Ordered (KeepsOrder c) (queued_by c a) s) T N M s t u
ordered_call x T N M s t c a u g = record {
  modes = g.modes;
  same = g.same;
  open_modes = g.open_modes;
  made = g.made;
  written = g.written;
  read = g.read;
  passed = g.passed;
  fifo = g.fifo;
  fits = g.fits;
  checks = g.checks;
  sent = λ o. g.sent ∙ in_order c a (to_send s) o;
  received = g.received;
  line = g.line;
  modem = g.modem;
}

-- what calls in turn do
abbrev pub ChainGoes : Modes → List RingLink → RingState → RingState → Type 0
ChainGoes x links s t =
    RingGoes x (Ordered (AllKeepOrder links) (queued links) s) (AllTakeInTurn links) (NeitherIs call.TakeLine line_of_driver links)
    (NeitherIs call.TakeModem modem_of_driver links) s t (gone links)

goes_nowhere : (x : Modes) (s : RingState) → InSession x (under s) → ChainGoes x [] s s
goes_nowhere x s w = record {
  modes = x;
  same = refl;
  open_modes = w.open_modes;
  made = [];
  written = [];
  read = [];
  passed = record { takes = []; bytes = refl; passed = passed-refl x (ring_machine s) w.stands.sound w.stands.modes };
  fifo = refl;
  fits = λ fits. fits;
  checks = refl;
  sent = λ o. sym (append-nil (to_send s));
  received = λ turn. sym (append-nil (to_take s));
  line = λ n. sym (or_zero_r (untold_line_of s));
  modem = λ m. sym (or_zero_r (untold_modem_of s));
}

pub ring_goes_chain : (x : Modes) (s t : RingState) (links : List RingLink) → InSession x (under s) → AllWithinRingSession s links →
    RingChain s links t → ChainGoes x links s t
unfolding ordered_call
ring_goes_chain x s t [] w i h = rw h (goes_nowhere x s w)
ring_goes_chain x s t (link ∷ links) w i h =
    let W : RingState → Type 0 = λ v. InSession x (under v) in
    let begins = subst W (sym h.0) w in
    let j = first_within s t link links i h in
    let first = ring_goes_call x link.before link.after link.call link.answer begins j.here h.1 in
    let rest = ring_goes_chain first.modes link.after t links (in_session-gone x _ _ _ _ link.before link.after _ begins first)
    j.later h.2 in
    let P : RingState → Type 0 = λ v. ChainGoes x (link ∷ links) v t in
    subst P h.0 (ring_goes-trans x _ _ _ _ _ _ _ _ link.before link.after t (queued_by link.call link.answer) (queued links)
    (gone_by link) (gone links) (ordered_call x _ _ _ link.before link.after link.call link.answer _ first) rest)
