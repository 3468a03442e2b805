-- The lists of the loopback test.
use Rattle.uart_run.proofs.Names.{ℕ, Bool, true, false, List, [], ◌∷◌, refl, Result, Ok, Err, Option, Some, None, LoopbackError, SendError}
use Rattle.uart_run.proofs.Names.{UnexpectedLoopbackByte, UnexpectedLoopbackMsg, Read, InOrder, test_byte, test_message, TakesOne}
use Rattle.uart_run.proofs.Names.{DrainsLoopback, SendsTestByte, ExchangesByte, Echo, EchoFails, HasEchoedWhole, HasEchoedEach}
use Rattle.uart_run.proofs.Names.{HasEchoedAll, ExchangesMessage, Exchanges, BeginsTest, EntersAt, Enters, Leaves, Inside, FromEmpty}
use Rattle.uart_run.proofs.Names.{TestsLoopback, Doing, FifoTriggerLevel}
use Rattle.uart_spec.specs.declared.errors.LoopbackError.TheVariants.{Stalled}
use Rattle.uart_spec.specs.declared.registers.offsets.TheConstants as offsets
use Rattle.uart_run.proofs.built.Words.{Does, next, saves, looks, sets, some_does, either_does, by_fields, among_does, wider_does}
use Rattle.uart_run.proofs.{built.Init.sets_fifo, built.Words.few}
use Rattle.uart_run.proofs.built.Words.{Kinds, nothing, Built, only, then, limited, in_order, never, if_fifo, either, some, among, wider}
use Rattle.uart_run.proofs.built.Receive.{receiving, waits_for, miss, hit, awaited, receives_exact}
use Rattle.uart_run.proofs.built.Transmit.{sending, send_miss, round, try_sends, sends_all, sends_exact}

-- MCR, IER and LSR are read
abbrev pub beginning : Kinds
beginning = record { reads = offsets.MCR ∷ offsets.IER ∷ offsets.LSR ∷ []; writes = []; alters = nothing }

pub begins_test : (mcr ier : ℕ) (empty : Bool) → Built beginning (BeginsTest mcr ier empty)
begins_test mcr ier empty = then (only (Read offsets.MCR mcr ∷ Read offsets.IER ier ∷ []) refl) (wider refl (waits_for _ empty))

-- ---- the drain and the byte

pub takes_one : Built receiving TakesOne
takes_one = some hit

pub drains_loopback : (whole : Bool) → Built receiving (DrainsLoopback whole)
drains_loopback true = then (few takes_one) miss
drains_loopback false = limited takes_one

-- what is sent comes back
abbrev pub exchanging : Kinds
exchanging = record { reads = offsets.LSR ∷ offsets.MCR ∷ offsets.MSR ∷ offsets.DATA ∷ []; writes = offsets.DATA ∷ []; alters = nothing }

sends_test_byte : Built sending SendsTestByte
sends_test_byte = try_sends {T = Unit {0}} test_byte (Ok tt)

pub exchanges_byte : {T : Type 0} (result : Result T LoopbackError) → Built exchanging (ExchangesByte result)
exchanges_byte (Ok x) = then (wider refl sends_test_byte) (wider refl (awaited test_byte))
exchanges_byte (Err (SendError e)) = wider refl (try_sends {T = Unit {0}} test_byte (Err e))
exchanges_byte (Err Stalled) = then (wider refl sends_test_byte) (wider refl (limited miss))
exchanges_byte (Err (UnexpectedLoopbackByte expected actual)) =
    among (λ s l t. t.2) (then (wider refl sends_test_byte) (wider refl (awaited actual)))
exchanges_byte (Err (UnexpectedLoopbackMsg expected actual)) = never

-- ---- the message

echo : (pair : ℕ × ℕ) → Built exchanging (Echo pair)
echo pair = then (wider refl (round (pair.0 ∷ []))) (wider refl (awaited pair.1))

pub echoes : (pairs : List (ℕ × ℕ)) → Built exchanging (InOrder Echo pairs)
echoes pairs = in_order pairs echo

echo_fails : (byte : ℕ) → Built exchanging (EchoFails byte)
echo_fails byte = either (wider refl (limited send_miss)) (then (wider refl (round (byte ∷ []))) (wider refl (limited miss)))

has_echoed_whole : (sent : List ℕ) (got : Option (List ℕ)) → Built exchanging (HasEchoedWhole sent got)
has_echoed_whole sent (Some got) = among (λ s l t. t.1) (then (wider refl (sends_all sent)) (wider refl (in_order got awaited)))
has_echoed_whole sent None =
    either (some (λ e. wider refl (sends_exact {T = Unit {0}} sent (Err e))))
    (among (λ s l t. (t.0, (t.1, t.2)))
    (some (λ e. some (λ got. then (wider refl (sends_all sent)) (wider refl (receives_exact {T = Unit {0}} _ got (Err e)))))))

has_echoed_each : (sent : List ℕ) (got : Option (List ℕ)) → Built exchanging (HasEchoedEach sent got)
has_echoed_each sent (Some got) = among (λ s l t. (t.0, t.3)) (some echoes)
has_echoed_each sent None = among (λ s l t. (t.0, (t.1, t.4))) (some (λ pairs. some (λ byte. then (echoes pairs) (echo_fails byte))))

has_echoed_all : (sent : List ℕ) (got : Option (List ℕ)) → Built exchanging (HasEchoedAll sent got)
has_echoed_all sent got = if_fifo (has_echoed_whole sent got) (has_echoed_each sent got)

exchanges_message : {T : Type 0} (result : Result T LoopbackError) → Built exchanging (ExchangesMessage result)
exchanges_message (Ok x) = has_echoed_all test_message (Some test_message)
exchanges_message (Err (SendError e)) = never
exchanges_message (Err Stalled) = has_echoed_all test_message None
exchanges_message (Err (UnexpectedLoopbackByte expected actual)) = never
exchanges_message (Err (UnexpectedLoopbackMsg expected actual)) = among (λ s l t. t.3) (has_echoed_all test_message (Some actual))

-- ---- all of it

drained : Built exchanging (DrainsLoopback true)
drained = wider refl (drains_loopback true)

pub exchanges : {T : Type 0} (result : Result T LoopbackError) → Built exchanging (Exchanges result)
exchanges (Ok x) = then drained (then (exchanges_byte (Ok x)) (exchanges_message (Ok x)))
exchanges (Err e) =
    either (among (λ s l t. t.1) (wider refl (drains_loopback false)))
    (either (then drained (exchanges_byte {T = Unit {0}} (Err e)))
    (then drained (then (exchanges_byte {T = Unit {0}} (Ok tt)) (exchanges_message {T = Unit {0}} (Err e)))))

-- ---- the ways in and out

abbrev pub entering : Kinds
entering = record { reads = offsets.MSR ∷ offsets.ISR ∷ []; writes = offsets.IER ∷ offsets.MCR ∷ offsets.FCR ∷ []; alters = nothing }

pub enters_at : (level : Option FifoTriggerLevel) (before : ℕ) (fifo : Bool) → Does entering (EntersAt level before fifo)
enters_at level before fifo = next (saves (then (only _ refl) (wider refl (sets_fifo level fifo)))) (sets _ (λ f. (refl, refl)))

abbrev pub leaving : Kinds
leaving = record { reads = offsets.MSR ∷ []; writes = offsets.MCR ∷ offsets.IER ∷ []; alters = nothing }

pub leaves : (mcr ier before noted : ℕ) → Does leaving (Leaves mcr ier before noted)
leaves mcr ier before noted =
    some_does (λ now. next (saves (only _ refl)) (next (looks (only _ refl)) (next (saves (only _ refl)) (sets _ (λ f. (refl, refl))))))

-- ---- the test

-- all but LCR is written
abbrev pub testing : Kinds
testing = record {
  reads = offsets.LSR ∷ offsets.MCR ∷ offsets.MSR ∷ offsets.DATA ∷ offsets.IER ∷ offsets.ISR ∷ [];
  writes = offsets.DATA ∷ offsets.IER ∷ offsets.MCR ∷ offsets.FCR ∷ [];
  alters = nothing;
}

enters : (before : ℕ) (fifo : Bool) → Does entering (Enters before fifo)
enters before fifo = by_fields (λ f l after t. t) (λ g. enters_at g.config.fifo_trigger_level before fifo)

-- what is done in loopback, with the errors of the fields before it
pub inside : {enters : ℕ → Bool → Doing} {during : Doing} → ((before : ℕ) (fifo : Bool) → Does entering (enters before fifo)) →
    Does testing during → (mcr ier : ℕ) → Does testing (Inside enters during mcr ier)
inside enters during mcr ier =
    by_fields (λ f l after t. (t.0, (t.1, t.2)))
    (λ g. some_does (λ before. some_does (λ fifo.
    next (wider_does refl (enters before fifo)) (next during (wider_does refl (leaves mcr ier before g.lsr))))))

pub from_empty : {stalled : Type 0} {follows : ℕ → ℕ → Doing} → ((mcr ier : ℕ) → Does testing (follows mcr ier)) →
    Does testing (FromEmpty stalled follows)
from_empty follows =
    among_does (λ f l after t. (t.0, (t.1, t.2)))
    (some_does (λ mcr. some_does (λ ier. either_does
    (among_does (λ f l after t. t.1) (saves (wider refl (begins_test mcr ier false))))
    (next (saves (wider refl (begins_test mcr ier true))) (follows mcr ier)))))

pub tests_loopback : {T : Type 0} (result : Result T LoopbackError) → Does testing (TestsLoopback result)
tests_loopback result = from_empty (inside enters (saves (wider refl (exchanges result))))
