-- That calls keep the direction.
use Rattle.std.proofs.Common.{◌≡◌, ℕ, Bool, true, false, List, [], ◌∷◌, ◌++◌, Result, Ok, Err, arith, sym, ◌∙◌, ap, subst}
use Rattle.uart_spec.specs.declared.access.Access.{Access}
use Rattle.uart_spec.specs.declared.access.Access.TheVariants.{Read, Write}
use Rattle.uart_spec.specs.declared.registers.line_status.TheConstants.LSR
use Rattle.uart_spec.specs.declared.registers.offsets.TheConstants as offsets
use Rattle.uart_spec.specs.Bits.{has}
use Rattle.uart_16550.specs.Frame.{unlooped}
use Rattle.uart_rs485.specs.Bus.{BusFields, SendsBytes, SendsBytesExact, Stays, TriesToFinish, Turns, with_driver}
use Rattle.uart_rs485.specs.Directions.{sends_after, turned}
use Rattle.uart_rs485.specs.Laws.{BusCall, DoesCall, DoesCalls, CallsKeepDirection, GivingUpFrees, KeepsFromNew}
use Rattle.uart_rs485.specs.declared.direction.Direction.{Direction}
use Rattle.uart_rs485.specs.declared.errors.BusyError.{BusyError}
use Rattle.uart_rs485.specs.declared.errors.NotSendingError.{NotSendingError}
use Rattle.uart_rs485.specs.declared.errors.SendError.{SendError}
use Rattle.uart_rs485.specs.declared.errors.SendError.TheVariants.{NotSending, Stalled}
use Rattle.uart_rs485.proofs.Allowing.{AllowsAll, allows_append, keeps_all, sends_after-append}
use Rattle.uart_rs485.proofs.Quiet.{AllQuiet, quiet_allows, quiet_stays, idle_quiet, flush_quiet, sends_quiet, exact_quiet}
use Rattle.uart_rs485.proofs.Quiet.{receives_quiet, receives_noted_quiet, ready_quiet, try_quiet, try_noted_quiet}
use Rattle.uart_rs485.proofs.Quiet.{receives_exact_quiet, receives_while_quiet, echo_quiet}
use Rattle.uart_rs485.proofs.Turning.{switches_turn, unlooped_off}

-- the accesses are allowed, and afterwards a bus is taken to be sending exactly if it is
pub record Kept (d : Direction) (before : Bool) (l : List Access) (after : BusFields) : Type 0 where
  pub allows : AllowsAll d before false l
  pub sends : after.sends ≡ sends_after d before l
  pub direction : after.direction ≡ d

abbrev pub KeptFrom : BusFields → List Access → BusFields → Type 0
KeptFrom f l after = Kept f.direction f.sends l after

-- no register but DATA is written, and that only while the transceiver sends
quiet_kept : (f : BusFields) (l : List Access) (after : BusFields) → AllQuiet f.sends l → after ≡ with_driver after.driver f →
    KeptFrom f l after
quiet_kept f l after t same = record {
  allows = quiet_allows f.direction f.sends false l t;
  sends = ap (λ (x : BusFields). x.sends) same ∙ sym (quiet_stays f.direction f.sends l t);
  direction = ap (λ (x : BusFields). x.direction) same;
}

stays_kept : (f : BusFields) (l : List Access) (after : BusFields) → Stays f l after → KeptFrom f l after
stays_kept f l after t = rw t.0 (record {
  allows = tt;
  sends = ap (λ (x : BusFields). x.sends) t.1;
  direction = ap (λ (x : BusFields). x.direction) t.1;
})

-- one list and then another
then_kept : (d : Direction) (before : Bool) (l m : List Access) (mid after : BusFields) → Kept d before l mid → KeptFrom mid m after →
    Kept d before (l ++ m) after
then_kept d before l m mid after p q =
    let P : Direction → Type 0 = λ e. AllowsAll e mid.sends false m in
    let Q : Bool → Type 0 = λ sends. AllowsAll d sends false m in
    record {
      allows = allows_append d before false l m p.allows (subst Q p.sends (subst P p.direction q.allows));
      sends = q.sends ∙ (λ i. sends_after (p.direction i) (p.sends i) m) ∙ sym (sends_after-append d before l m);
      direction = q.direction ∙ p.direction;
    }

-- ---- the transceiver is switched

-- what is written to MCR in this direction
abbrev pub written : Direction → (sends : Bool) → ℕ → ℕ
written d sends mcr = unlooped (turned d sends mcr)

apart : offsets.MCR ≡ offsets.DATA → ⊥
apart same = absurd (omega arith)

pub turn_allows : (d : Direction) (before empty sends : Bool) (mcr : ℕ) → (sends ≡ false → empty ≡ true) →
    AllowsAll d before empty (Read offsets.MCR mcr ∷ Write offsets.MCR (written d sends mcr) ∷ [])
turn_allows d before empty sends mcr due =
    let t = switches_turn d sends mcr in
    (tt, ((λ at. absurd (apart at), λ at off. due (sym t.0 ∙ off), λ at. (t.1, unlooped_off (turned d sends mcr))), tt))

pub never : (e : Bool) → true ≡ false → e ≡ true
never e wrong = absurd cc

turns_kept : (f : BusFields) (l : List Access) (after : BusFields) → Turns true f l after → KeptFrom f l after
turns_kept f l after t =
    let made = t.0.0 in
    record {
      allows = rw made.1 (turn_allows f.direction f.sends false true made.0 (never false));
      sends = ap (λ (x : BusFields). x.sends) t.1 ∙ rw made.1 (sym (switches_turn f.direction true made.0).0);
      direction = ap (λ (x : BusFields). x.direction) t.1;
    }

-- LSR shows an empty transmitter, and the transceiver is switched to receive
pub finished : (d : Direction) (before : Bool) (lsr mcr : ℕ) (l : List Access) → has lsr LSR.TRANSMITTER_EMPTY.0 ≡ true →
    l ≡ Read offsets.LSR lsr ∷ Read offsets.MCR mcr ∷ Write offsets.MCR (written d false mcr) ∷ [] →
    AllowsAll d before false l × (sends_after d before l ≡ false)
finished d before lsr mcr l shows is = rw is (
  (tt, turn_allows d before (has lsr LSR.TRANSMITTER_EMPTY.0) false mcr (λ off. shows)),
  (switches_turn d false mcr).0,
)

-- the accesses of a look that shows this, and of a switch
pub record Finish (d : Direction) (l : List Access) : Type 0 where
  pub lsr : ℕ
  pub mcr : ℕ
  pub shows : has lsr LSR.TRANSMITTER_EMPTY.0 ≡ true
  pub is : l ≡ Read offsets.LSR lsr ∷ Read offsets.MCR mcr ∷ Write offsets.MCR (written d false mcr) ∷ []

pub finish_made : (f : BusFields) (l : List Access) (after : BusFields) → TriesToFinish {T = Unit {0}} (Ok tt) f l after →
    Finish f.direction l
finish_made f l after t =
    let looked = t.first.0.0 in
    let made = t.second.0.0 in
    let way : t.mid.direction ≡ f.direction = ap (λ (x : BusFields). x.direction) t.first.1 in
    record {
      lsr = looked.answer;
      mcr = made.0;
      shows = looked.shows;
      is = t.whole ∙ (λ i. looked.is i ++ made.1 i)
          ∙ ap (λ (d : Direction). Read offsets.LSR looked.answer ∷ Read offsets.MCR made.0 ∷
          Write offsets.MCR (written d false made.0) ∷ []) way;
    }

finishes_kept : (f : BusFields) (l : List Access) (after : BusFields) (before : Bool) → TriesToFinish {T = Unit {0}} (Ok tt) f l after →
    Kept f.direction before l after
finishes_kept f l after before t =
    let made = finish_made f l after t in
    let done = finished f.direction before made.lsr made.mcr l made.shows made.is in
    record {
      allows = done.0;
      sends = ap (λ (x : BusFields). x.sends) t.second.1 ∙ sym done.1;
      direction = ap (λ (x : BusFields). x.direction) t.second.1 ∙ ap (λ (x : BusFields). x.direction) t.first.1;
    }

-- ---- each call, and all of them

tries_kept : (result : Result (Unit {0}) BusyError) (f : BusFields) (l : List Access) (after : BusFields) → TriesToFinish result f l after →
    KeptFrom f l after
tries_kept (Ok x) f l after t = finishes_kept f l after f.sends t
tries_kept (Err e) f l after t = quiet_kept f l after (idle_quiet f.sends false _ l t.0.0) t.1

sends_kept : (bytes : List ℕ) (result : Result ℕ NotSendingError) (f : BusFields) (l : List Access) (after : BusFields) →
    SendsBytes bytes result f l after → KeptFrom f l after
sends_kept bytes (Ok count) f l after t = quiet_kept f l after (sends_quiet f.sends t.0 bytes count _ l t.1.0.0) t.1.1
sends_kept bytes (Err e) f l after t = stays_kept f l after t.1

exact_kept : (bytes : List ℕ) (result : Result (Unit {0}) SendError) (f : BusFields) (l : List Access) (after : BusFields) →
    SendsBytesExact bytes result f l after → KeptFrom f l after
exact_kept bytes (Ok x) f l after t = quiet_kept f l after (exact_quiet f.sends t.0 bytes (Ok tt) _ l t.1.0.0) t.1.1
exact_kept bytes (Err (Stalled e)) f l after t = quiet_kept f l after (exact_quiet f.sends t.0 bytes (Err e) _ l t.1.0.0) t.1.1
exact_kept bytes (Err NotSending) f l after t = stays_kept f l after t.1

call_kept : (call : BusCall) (f : BusFields) (l : List Access) (after : BusFields) → DoesCall call f l after → KeptFrom f l after
call_kept BusCall.start_sending f l after t = turns_kept f l after t
call_kept BusCall.try_finish f l after (result, t) = tries_kept result f l after t
call_kept BusCall.is_idle f l after (idle, t) = quiet_kept f l after (idle_quiet f.sends idle _ l t.0.0) t.1
call_kept BusCall.flush f l after (result, t) = quiet_kept f l after (flush_quiet f.sends result _ l t.0.0) t.1
call_kept BusCall.lsr f l after (status, t) = quiet_kept f l after (rw t.0.1 (tt, tt)) t.1
call_kept BusCall.ready_to_receive f l after (result, t) = quiet_kept f l after (ready_quiet f.sends result _ l t.0.0) t.1
call_kept BusCall.try_receive_byte f l after (result, t) = quiet_kept f l after (try_quiet f.sends result _ l t.0.0) t.1
call_kept BusCall.try_receive_with_errors f l after (result, t) =
    quiet_kept f l after (try_noted_quiet f.sends result _ l t.0.0) t.1
call_kept (BusCall.send_bytes bytes) f l after (result, t) = sends_kept bytes result f l after t
call_kept (BusCall.send_bytes_exact bytes) f l after (result, t) = exact_kept bytes result f l after t
call_kept (BusCall.receive_bytes slots) f l after (bytes, t) =
    quiet_kept f l after (receives_quiet f.sends slots bytes _ l t.0.0) t.1
call_kept (BusCall.receive_with_errors slots) f l after (items, t) =
    quiet_kept f l after (receives_noted_quiet f.sends slots items _ l t.0.0) t.1
call_kept (BusCall.receive_bytes_exact slots) f l after (bytes, result, t) =
    quiet_kept f l after (receives_exact_quiet f.sends slots bytes result _ l t.0.0) t.1
call_kept (BusCall.receive_bytes_while slots) f l after (bytes, said, result, t) =
    quiet_kept f l after (receives_while_quiet f.sends slots bytes said result _ l t.0.0) t.1
call_kept (BusCall.receive_echo sent) f l after (result, t) =
    quiet_kept f l after (echo_quiet f.sends sent result _ l t.0.0) t.1

pub calls_kept : (calls : List BusCall) (f : BusFields) (l : List Access) (after : BusFields) → DoesCalls calls f l after →
    KeptFrom f l after
calls_kept [] f l after t = stays_kept f l after t
calls_kept (call ∷ calls) f l after t = rw t.whole (then_kept f.direction f.sends t.front t.back t.mid after
    (call_kept call f t.front t.mid t.first) (calls_kept calls t.mid t.back after t.second))

pub calls_keep : CallsKeepDirection
calls_keep calls f l after t =
    let kept = calls_kept calls f l after t in (keeps_all f.direction f.sends l kept.allows, kept.sends)

pub keeps_from_new : KeepsFromNew
keeps_from_new d sends driver calls l m mid after t u =
    let kept = then_kept d sends l m mid after (finishes_kept _ l mid sends t) (calls_kept calls mid m after u) in
    (keeps_all d sends (l ++ m) kept.allows, kept.sends)

-- ---- the bus is given up

pub frees : GivingUpFrees
frees status f l after t =
    let made = t.second.0.0 in
    let looked = t.first.0 in
    let way : t.mid.direction ≡ f.direction = ap (λ (x : BusFields). x.direction) t.first.1 in
    record {
      lsr = looked.0;
      mcr = made.0;
      written = written f.direction false made.0;
      is = t.whole ∙ (λ i. looked.1 i ++ made.1 i)
          ∙ ap (λ (d : Direction). Read offsets.LSR looked.0 ∷ Read offsets.MCR made.0 ∷
          Write offsets.MCR (written d false made.0) ∷ []) way;
      receives = switches_turn f.direction false made.0;
      loopback = unlooped_off (turned f.direction false made.0);
    }
