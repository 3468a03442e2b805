-- Calls of the driver that write no register but DATA, and that only while the transceiver sends.
use Rattle.std.proofs.Common.{◌≡◌, ℕ, zero, suc, Bool, true, false, MatchBool, List, [], ◌∷◌, ◌++◌, Result, Ok, Err, refl, sym}
use Rattle.std.proofs.Common.{◌+◌, take, subst, arith, inl, inr}
use Rattle.std.specs.Prelude.{⊤}
use Rattle.uart_spec.specs.declared.access.Access.{Access}
use Rattle.uart_spec.specs.declared.access.Access.TheVariants.{Read, Write}
use Rattle.uart_spec.specs.declared.errors.ByteReceiveError.{ByteReceiveError}
use Rattle.uart_spec.specs.declared.errors.ByteSendError.TheVariants.{NoCapacity, RemoteNotClearToSend}
use Rattle.uart_spec.specs.declared.errors.StalledError.{StalledError}
use Rattle.uart_spec.specs.declared.received.Received.{Received}
use Rattle.uart_spec.specs.declared.registers.line_status.TheConstants.LSR
use Rattle.uart_spec.specs.declared.registers.offsets.TheConstants as offsets
use Rattle.uart_16550.specs.Grammar.{Language, Settings, Only, Then, InOrder, Times, FewMisses, AllMisses, Asks}
use Rattle.uart_16550.specs.Io.{Flushes}
use Rattle.uart_16550.specs.Patience.{ByteAfter, InVain, ReceivesWhile}
use Rattle.uart_16550.specs.Patience.{Awaited as ReceivedAfter}
use Rattle.uart_16550.specs.declared.patience.WaitEnd.{WaitEnd}
use Rattle.uart_16550.specs.declared.patience.WaitEnd.TheVariants.{SpinLimit, Patience}
use Rattle.uart_16550.specs.declared.patience.WaitError.{WaitError}
use Rattle.uart_16550.specs.Receive.{Awaited, Hit, HitWithErrors, Miss, ReadyToReceive, Receives, ReceivesExact, ReceivesWithErrors}
use Rattle.uart_16550.specs.Receive.{TryReceive, TryReceiveWithErrors}
use Rattle.uart_16550.specs.Transmit.{Burst, LinesAllow, Round, SendHit, SendMiss, Sends, SendsExact, data_writes}
use Rattle.uart_rs485.specs.Bus.{HearsEcho}
use Rattle.uart_rs485.specs.Directions.{sends_after}
use Rattle.uart_rs485.specs.declared.errors.EchoError.{EchoError}
use Rattle.uart_rs485.specs.declared.errors.EchoError.TheVariants.{Differs, Silent}
use Rattle.uart_rs485.specs.declared.direction.Direction.{Direction}
use Rattle.uart_rs485.proofs.Allowing.{AllowsAll}

abbrev IsQuiet : (sends : Bool) → Access → Type 0
IsQuiet sends (Read offset answer) = ⊤
IsQuiet sends (Write offset value) = (offset ≡ offsets.DATA) × (sends ≡ true)

abbrev pub AllQuiet : (sends : Bool) → List Access → Type 0
AllQuiet sends [] = ⊤
AllQuiet sends (access ∷ accesses) = IsQuiet sends access × AllQuiet sends accesses

apart : offsets.DATA ≡ offsets.MCR → ⊥
apart same = absurd (omega arith)

-- such a list is allowed, and leaves the direction
pub quiet_allows : (d : Direction) (sends empty : Bool) (l : List Access) → AllQuiet sends l → AllowsAll d sends empty l
quiet_allows d sends empty [] t = tt
quiet_allows d sends empty (Read offset answer ∷ l) t = (tt, quiet_allows d sends _ l t.1)
quiet_allows d sends empty (Write offset value ∷ l) t =
    let P : ℕ → Type 0 = λ n. AllowsAll d sends empty (Write n value ∷ l) in
    subst P (sym t.0.0) ((λ at. t.0.1, λ at off. absurd (apart at), λ at. absurd (apart at)), quiet_allows d sends false l t.1)

pub quiet_stays : (d : Direction) (sends : Bool) (l : List Access) → AllQuiet sends l → sends_after d sends l ≡ sends
quiet_stays d sends [] t = refl
quiet_stays d sends (Read offset answer ∷ l) t = quiet_stays d sends l t.1
quiet_stays d sends (Write offset value ∷ l) t = rw t.0.0 (quiet_stays d sends l t.1)

quiet-append : (sends : Bool) (l m : List Access) → AllQuiet sends l → AllQuiet sends m → AllQuiet sends (l ++ m)
quiet-append sends [] m t u = u
quiet-append sends (access ∷ l) m t u = (t.0, quiet-append sends l m t.1 u)

-- ---- languages all of whose lists are quiet

abbrev pub IsQuietAll : (sends : Bool) → Language → Type 0
IsQuietAll sends P = (s : Settings) (l : List Access) → P s l → AllQuiet sends l

asks_quiet : (sends : Bool) (register bits : ℕ) (outcome : Bool) → IsQuietAll sends (Asks register bits outcome)
asks_quiet sends register bits outcome s l t = rw t.is (tt, tt)

then_quiet : (sends : Bool) (P Q : Language) → IsQuietAll sends P → IsQuietAll sends Q → IsQuietAll sends (Then P Q)
then_quiet sends P Q p q s l t = rw t.whole (quiet-append sends t.front t.back (p s t.front t.first) (q s t.back t.second))

times_quiet : (sends : Bool) (n : ℕ) (P : Language) → IsQuietAll sends P → IsQuietAll sends (Times n P)
times_quiet sends zero P p s l t = rw t.is tt
times_quiet sends (suc n) P p s l t = then_quiet sends P (Times n P) p (times_quiet sends n P p) s l t

few_quiet : (sends : Bool) (P : Language) → IsQuietAll sends P → IsQuietAll sends (FewMisses P)
few_quiet sends P p s l t = times_quiet sends t.0 P p s l t.2

all_quiet : (sends : Bool) (P : Language) → IsQuietAll sends P → IsQuietAll sends (AllMisses P)
all_quiet sends P p s l t = times_quiet sends s.limit P p s l t

order_quiet : {A : Type 0} (sends : Bool) (P : A → Language) (items : List A) → ((item : A) → IsQuietAll sends (P item)) →
    IsQuietAll sends (InOrder P items)
order_quiet sends P [] p s l t = rw t.is tt
order_quiet sends P (item ∷ items) p s l t = then_quiet sends (P item) (InOrder P items) (p item) (order_quiet sends P items p) s l t

lines_quiet : (sends allowed : Bool) → IsQuietAll sends (LinesAllow allowed)
lines_quiet sends allowed s l (inl t) = asks_quiet sends _ _ _ s l t.1
lines_quiet sends allowed s l (inr t) = then_quiet sends _ _ (asks_quiet sends _ _ _) (asks_quiet sends _ _ _) s l t

hit_quiet : (sends : Bool) → IsQuietAll sends SendHit
hit_quiet sends s l t = go s.checks t
  where
    go : (checks : Bool) → MatchBool checks (Then (Asks offsets.LSR LSR.THR_EMPTY.0 true) (LinesAllow true) s l)
        (Asks offsets.LSR LSR.THR_EMPTY.0 true s l) → AllQuiet sends l
    go true t = then_quiet sends _ _ (asks_quiet sends _ _ _) (lines_quiet sends true) s l t
    go false t = asks_quiet sends _ _ _ s l t

miss_quiet : (sends : Bool) → IsQuietAll sends SendMiss
miss_quiet sends s l (NoCapacity, t) = asks_quiet sends _ _ _ s l t
miss_quiet sends s l (RemoteNotClearToSend, t) = go s.checks t
  where
    go : (checks : Bool) → MatchBool checks (Then (Asks offsets.LSR LSR.THR_EMPTY.0 true) (LinesAllow false) s l) ⊥ → AllQuiet sends l
    go true t = then_quiet sends _ _ (asks_quiet sends _ _ _) (lines_quiet sends false) s l t
    go false t = absurd t

writes_quiet : (sends : Bool) → sends ≡ true → (bytes : List ℕ) → AllQuiet sends (data_writes bytes)
writes_quiet sends on [] = tt
writes_quiet sends on (byte ∷ bytes) = ((refl, on), writes_quiet sends on bytes)

burst_quiet : (sends : Bool) → sends ≡ true → (bytes : List ℕ) → IsQuietAll sends (Burst bytes)
burst_quiet sends on bytes s l t =
    then_quiet sends SendHit (Only (data_writes bytes)) (hit_quiet sends) (λ s l t. rw t.is (writes_quiet sends on bytes)) s l t

round_quiet : (sends : Bool) → sends ≡ true → (bytes : List ℕ) → IsQuietAll sends (Round bytes)
round_quiet sends on bytes s l t =
    then_quiet sends (FewMisses SendMiss) (Burst bytes) (few_quiet sends SendMiss (miss_quiet sends)) (burst_quiet sends on bytes) s l t

pub sends_quiet : (sends : Bool) → sends ≡ true → (bytes : List ℕ) (count : ℕ) → IsQuietAll sends (Sends bytes count)
sends_quiet sends on bytes count s l (inl (none, unsent, is)) = rw is tt
sends_quiet sends on bytes count s l (inr (inl (some, unsent, t))) = miss_quiet sends s l t
sends_quiet sends on bytes count s l (inr (inr (some, size, t))) = burst_quiet sends on (take count bytes) s l t

pub exact_quiet : (sends : Bool) → sends ≡ true → (bytes : List ℕ) (result : Result (Unit {0}) StalledError) →
    IsQuietAll sends (SendsExact bytes result)
exact_quiet sends on bytes (Ok x) s l (pieces, cut, t) = order_quiet sends Round pieces (round_quiet sends on) s l t
exact_quiet sends on bytes (Err e) s l (pieces, rest, cut, left, size, t) =
    then_quiet sends (InOrder Round pieces) (AllMisses SendMiss) (order_quiet sends Round pieces (round_quiet sends on))
    (all_quiet sends SendMiss (miss_quiet sends)) s l t

pub flush_quiet : (sends : Bool) (result : Result (Unit {0}) StalledError) → IsQuietAll sends (Flushes result)
flush_quiet sends (Ok x) s l t =
    then_quiet sends _ _ (few_quiet sends _ (asks_quiet sends offsets.LSR LSR.TRANSMITTER_EMPTY.0 false))
    (asks_quiet sends offsets.LSR LSR.TRANSMITTER_EMPTY.0 true) s l t
flush_quiet sends (Err e) s l t = all_quiet sends _ (asks_quiet sends offsets.LSR LSR.TRANSMITTER_EMPTY.0 false) s l t.1

pub idle_quiet : (sends idle : Bool) → IsQuietAll sends (Asks offsets.LSR LSR.TRANSMITTER_EMPTY.0 idle)
idle_quiet sends idle = asks_quiet sends offsets.LSR LSR.TRANSMITTER_EMPTY.0 idle

received_quiet : (sends : Bool) (byte : ℕ) → IsQuietAll sends (Hit byte)
received_quiet sends byte s l t = then_quiet sends _ _ (asks_quiet sends _ _ _) (λ s l t. rw t.is (tt, tt)) s l t

missed_quiet : (sends : Bool) → IsQuietAll sends Miss
missed_quiet sends s l t = asks_quiet sends _ _ _ s l t

pub receives_quiet : (sends : Bool) (slots : ℕ) (bytes : List ℕ) → IsQuietAll sends (Receives slots bytes)
receives_quiet sends slots bytes s l (inl (all, t)) = order_quiet sends Hit bytes (received_quiet sends) s l t
receives_quiet sends slots bytes s l (inr (fewer, t)) =
    then_quiet sends (InOrder Hit bytes) Miss (order_quiet sends Hit bytes (received_quiet sends)) (missed_quiet sends) s l t

noted_quiet : (sends : Bool) (item : Received) → IsQuietAll sends (HitWithErrors item)
noted_quiet sends item s l (lsr, shows, errors, is) = rw is (tt, (tt, tt))

pub receives_noted_quiet : (sends : Bool) (slots : ℕ) (items : List Received) → IsQuietAll sends (ReceivesWithErrors slots items)
receives_noted_quiet sends slots items s l (inl (all, t)) = order_quiet sends HitWithErrors items (noted_quiet sends) s l t
receives_noted_quiet sends slots items s l (inr (fewer, t)) =
    then_quiet sends (InOrder HitWithErrors items) Miss (order_quiet sends HitWithErrors items (noted_quiet sends))
    (missed_quiet sends) s l t

-- ---- the calls that wait for a byte, and those that take one

pub ready_quiet : (sends : Bool) (result : Result (Unit {0}) ByteReceiveError) → IsQuietAll sends (ReadyToReceive result)
ready_quiet sends (Ok x) s l t = asks_quiet sends _ _ _ s l t
ready_quiet sends (Err e) s l t = missed_quiet sends s l t

pub try_quiet : (sends : Bool) (result : Result ℕ ByteReceiveError) → IsQuietAll sends (TryReceive result)
try_quiet sends (Ok byte) s l t = received_quiet sends byte s l t
try_quiet sends (Err e) s l t = missed_quiet sends s l t

pub try_noted_quiet : (sends : Bool) (result : Result Received ByteReceiveError) → IsQuietAll sends (TryReceiveWithErrors result)
try_noted_quiet sends (Ok item) s l t = noted_quiet sends item s l t
try_noted_quiet sends (Err e) s l t = missed_quiet sends s l t

awaited_quiet : (sends : Bool) (byte : ℕ) → IsQuietAll sends (Awaited byte)
awaited_quiet sends byte s l t =
    then_quiet sends _ _ (few_quiet sends Miss (missed_quiet sends)) (received_quiet sends byte) s l t

silent_quiet : (sends : Bool) (bytes : List ℕ) → IsQuietAll sends (Then (InOrder Awaited bytes) (AllMisses Miss))
silent_quiet sends bytes s l t =
    then_quiet sends _ _ (order_quiet sends Awaited bytes (awaited_quiet sends)) (all_quiet sends Miss (missed_quiet sends)) s l t

pub receives_exact_quiet : (sends : Bool) (slots : ℕ) (bytes : List ℕ) (result : Result (Unit {0}) StalledError) →
    IsQuietAll sends (ReceivesExact slots bytes result)
receives_exact_quiet sends slots bytes (Ok x) s l (all, t) = order_quiet sends Awaited bytes (awaited_quiet sends) s l t
receives_exact_quiet sends slots bytes (Err e) s l (fewer, done, t) = silent_quiet sends bytes s l t

pub echo_quiet : (sends : Bool) (sent : List ℕ) (result : Result (Unit {0}) EchoError) → IsQuietAll sends (HearsEcho sent result)
echo_quiet sends sent (Ok x) s l t = order_quiet sends Awaited sent (awaited_quiet sends) s l t
echo_quiet sends sent (Err (Differs done heard)) s l (byte, there, other, t) =
    order_quiet sends Awaited _ (awaited_quiet sends) s l t
echo_quiet sends sent (Err (Silent done)) s l (fewer, t) = silent_quiet sends _ s l t

byte_after_quiet : (sends : Bool) (byte : ReceivedAfter ℕ) → IsQuietAll sends (ByteAfter byte)
byte_after_quiet sends byte s l (few, t) =
    then_quiet sends _ _ (times_quiet sends byte.misses Miss (missed_quiet sends)) (received_quiet sends byte.item) s l t

vain_quiet : (sends : Bool) (said : List Bool) (end : WaitEnd) → IsQuietAll sends (InVain Miss said end)
vain_quiet sends said SpinLimit s l (is, t) = all_quiet sends Miss (missed_quiet sends) s l t
vain_quiet sends said Patience s l (n, few, is, t) = times_quiet sends (n + 1) Miss (missed_quiet sends) s l t

pub receives_while_quiet : (sends : Bool) (slots : ℕ) (bytes : List ℕ) (said : List Bool) (result : Result (Unit {0}) WaitError) →
    IsQuietAll sends (ReceivesWhile slots bytes said result)
receives_while_quiet sends slots bytes said (Ok x) s l (received, is, all, asked, t) =
    order_quiet sends ByteAfter received (byte_after_quiet sends) s l t
receives_while_quiet sends slots bytes said (Err e) s l (received, last, is, fewer, done, asked, t) =
    then_quiet sends _ _ (order_quiet sends ByteAfter received (byte_after_quiet sends)) (vain_quiet sends last e.ended_by) s l t
