-- What a part of a link's run does at one end.
use Rattle.uart_link.proofs.Names.{◌≡◌, ◌≢◌, ℕ, List, [], ◌++◌, map, append_assoc, append-nil, refl, sym, ◌∙◌, ap, subst, bit_or}
use Rattle.uart_link.proofs.Names.{map-append, Event, saved_lsr, Access, Settings, settings_of, Character, at_mark, IsSound, or_assoc}
use Rattle.uart_link.proofs.Names.{Modes, Went, went-trans, passed-mark, IsOpen, IsWired, fits_by, RingFields, ring_fields, data_written}
use Rattle.uart_link.proofs.Names.{data_read, untold_line, data_written-append, data_read-append, RingCall, RingAnswer, RingState, under}
use Rattle.uart_link.proofs.Names.{ring_machine, IsOfRings, RingCallStep, to_send, to_take, queued_by, gone_in, KeepsOrder, wired_call}
use Rattle.uart_link.proofs.Names.{modes_at, InRingSession, RingPasses, InLine, ring_passes_call, untold_line_of, in_order}
use lib.Bits.{or_zero_r}
use Rattle.uart_ring.specs.Ring.{waiting}
use Rattle.uart_ring.proofs.RegisterBits.{saved_lsr-append}
use Rattle.uart_ring_runs.specs.declared.call.RingCall.TheVariants as call

-- from s to t these events came and these accesses were made: what was written to DATA, and then what waits, is what
-- waited and what was queued, if the order was kept; what left the receive ring and what is left of it was there or was
-- read from DATA; the driver has the same settings; and what LSR showed is still to be told, unless it was told
pub record EndPasses (x : Modes) (Order : Type 0) (queued : List ℕ) (NoLine : Type 0) (s t : RingState) (left : List ℕ)
    (events : List Event) : Type 0 where
  pub made : List Access
  pub takes : List Character
  pub bytes : map (λ character. character.byte) takes ≡ data_read made
  pub open_modes : IsOpen (modes_at x t)
  pub went : Went (modes_at x t) (ring_machine s).chip (ring_machine t).chip events made (data_written made) takes
  pub settings : settings_of (ring_fields t).driver ≡ settings_of (ring_fields s).driver
  pub sent : Order → data_written made ++ to_send t ≡ to_send s ++ queued
  pub received : left ++ to_take t ≡ to_take s ++ data_read made
  pub line : NoLine → untold_line_of t ≡ bit_or (untold_line_of s) (saved_lsr made)

-- events alone, which leave the rings as they are
pub passes_events : (x : Modes) (Order NoLine : Type 0) (s t : RingState) (events : List Event) → IsOpen (modes_at x t) →
    Went (modes_at x t) (ring_machine s).chip (ring_machine t).chip events [] [] [] → ring_fields t ≡ ring_fields s →
    EndPasses x Order [] NoLine s t [] events
passes_events x Order NoLine s t events o went same = record {
  made = [];
  takes = [];
  bytes = refl;
  open_modes = o;
  went = went;
  settings = ap (λ (f : RingFields). settings_of f.driver) same;
  sent = λ o. ap waiting same ∙ sym (append-nil (to_send s));
  received = ap (λ (f : RingFields). f.receive.items) same ∙ sym (append-nil (to_take s));
  line = λ n. ap untold_line same ∙ sym (or_zero_r (untold_line_of s));
}

-- one part and then another
pub passes-trans : (x : Modes) (A B N O : Type 0) (s t u : RingState) (q p e f : List ℕ) (g h : List Event) →
    EndPasses x A q N s t e g → EndPasses x B p O t u f h → EndPasses x (A × B) (q ++ p) (N × O) s u (e ++ f) (g ++ h)
passes-trans x A B N O s t u q p e f g h a b = record {
  made = a.made ++ b.made;
  takes = a.takes ++ b.takes;
  bytes =
      let byte : Character → ℕ = λ character. character.byte in
      map-append byte a.takes b.takes ∙ ((λ i. a.bytes i ++ b.bytes i) ∙ sym (data_read-append a.made b.made));
  open_modes = b.open_modes;
  went = rw (data_written-append a.made b.made)
      (went-trans (modes_at x t) (modes_at x u) _ _ _ g h a.made b.made _ _ a.takes b.takes refl a.went b.went);
  settings = b.settings ∙ a.settings;
  sent = λ o. ap (λ zs. zs ++ to_send u) (data_written-append a.made b.made) ∙
      (append_assoc (data_written a.made) (data_written b.made) (to_send u) ∙ (ap (λ zs. data_written a.made ++ zs) (b.sent o.1) ∙
      (sym (append_assoc (data_written a.made) (to_send t) p) ∙ (ap (λ zs. zs ++ p) (a.sent o.0) ∙ append_assoc (to_send s) q p))));
  received = append_assoc e f (to_take u) ∙ (ap (λ zs. e ++ zs) b.received ∙ (sym (append_assoc e (to_take t) (data_read b.made)) ∙
      (ap (λ zs. zs ++ data_read b.made) a.received ∙ (append_assoc (to_take s) (data_read a.made) (data_read b.made) ∙
      ap (λ zs. to_take s ++ zs) (sym (data_read-append a.made b.made))))));
  line = λ n. b.line n.1 ∙ (ap (λ v. bit_or v (saved_lsr b.made)) (a.line n.0) ∙
      (or_assoc (untold_line_of s) (saved_lsr a.made) (saved_lsr b.made) ∙
      ap (bit_or (untold_line_of s)) (sym (saved_lsr-append a.made b.made))));
}

-- a session goes on after a part
pub in_session-passed : (x : Modes) (Order NoLine : Type 0) (s t : RingState) (q e : List ℕ) (events : List Event) → InRingSession x s →
    EndPasses x Order q NoLine s t e events → IsSound (ring_machine t) → InRingSession x t
in_session-passed x Order NoLine s t q e events w p sound = record {
  open_modes = p.open_modes;
  stands = record { sound = sound; modes = p.went.modes };
  fifo = ap (λ (settings : Settings). settings.fifo) p.settings ∙ w.fifo;
  fits = fits_by (under s) (under t) (ap (λ (settings : Settings). settings.size) p.settings) p.went.sends.size w.fits;
}

-- an end in a session: its machine is wired, so each call goes on with the session
pub record InEnd (x : Modes) (s : RingState) : Type 0 where
  pub session : InRingSession x s
  pub wired : IsWired (under s)

-- ---- a ring call

-- a call: its events are the first of those that were ahead
pub record CallPasses (x : Modes) (c : RingCall) (a : RingAnswer) (s t : RingState) : Type 0 where
  pub events : List Event
  pub ends : EndPasses x (KeepsOrder c) (queued_by c a) (c ≢ call.TakeLine) s t (gone_in c a (to_take s)) events
  pub ahead : (ring_machine s).ahead ≡ events ++ (ring_machine t).ahead
  pub sound : IsSound (ring_machine t)

of_ring : (x : Modes) (M : Type 0) (s t : RingState) (c : RingCall) (a : RingAnswer) →
    RingPasses x (InLine c a s) (c ≢ call.TakeLine) M s t (gone_in c a (to_take s)) → CallPasses x c a s t
of_ring x M s t c a p = record {
  events = p.passed.passed.events;
  ends = record {
    made = p.made;
    takes = p.passed.takes;
    bytes = p.passed.bytes;
    open_modes = p.open_modes;
    went = p.passed.passed.went;
    settings = p.settings;
    sent = λ o. p.sent ∙ in_order c a (to_send s) o;
    received = p.received;
    line = p.line;
  };
  ahead = p.passed.passed.ahead;
  sound = p.passed.passed.sound;
}

pub call_passes : (x : Modes) (s t : RingState) (c : RingCall) (a : RingAnswer) → IsOfRings c → InEnd x s → RingCallStep s c a t →
    CallPasses x c a s t
call_passes x s t c a own w h = of_ring x _ s t c a (ring_passes_call x s t c a w.session own (wired_call s c own w.wired) h)

-- ---- what is known happens

-- the events up to the next Mark, and what becomes of the machine's schedule then is left open
pub record Settles (x : Modes) (Order NoLine : Type 0) (s t : RingState) : Type 0 where
  pub events : List Event
  pub ends : EndPasses x Order [] NoLine s t [] events
  pub ahead : (ring_machine s).ahead ≡ events ++ (at_mark (ring_machine s)).ahead
  pub sound : IsSound (at_mark (ring_machine s))

pub settle_passes : (x : Modes) (Order NoLine : Type 0) (s t : RingState) → InRingSession x s →
    (ring_machine t).chip ≡ (at_mark (ring_machine s)).chip → ring_fields t ≡ ring_fields s → Settles x Order NoLine s t
settle_passes x Order NoLine s t w chip same =
    let c = (ring_machine s).chip in
    let d = (ring_machine t).chip in
    let p = passed-mark (modes_at x s) (ring_machine s) w.open_modes.loopback w.stands.sound w.stands.modes in
    let went : Went (modes_at x s) c d p.events [] [] [] = rw chip p.went in
    let O : ℕ → Type 0 = λ v. IsOpen (record x { mcr = v }) in
    let W : ℕ → Type 0 = λ v. Went (record x { mcr = v }) c d p.events [] [] [] in
    let kept = sym went.modes.mcr in
    record {
      events = p.events;
      ends = passes_events x Order NoLine s t p.events (subst O kept w.open_modes) (subst W kept went) same;
      ahead = p.ahead;
      sound = p.sound;
    }
