-- The start of a terminal is determined.
use Rattle.std.proofs.Common.{◌≡◌, refl, ap, Result, Ok, Err}
use Rattle.uart_spec.specs.Config.{IsComputable}
use Rattle.uart_spec.specs.declared.config.Config.{Config}
use Rattle.uart_spec.specs.declared.errors.InitError.{InitError}
use Rattle.uart_spec.specs.declared.errors.LoopbackError.{LoopbackError}
use Rattle.uart_spec.specs.declared.errors.Uart16550TtyError.{Uart16550TtyError}
use Rattle.uart_spec.specs.declared.errors.Uart16550TtyError.TheVariants.{AddressError, InitError as NotSetUp, TestError}
use Rattle.uart_16550.specs.Driver.{Doing, Fields, Next}
use Rattle.uart_16550.specs.Init.{Inits}
use Rattle.uart_16550.specs.Loopback.{TestsLoopback}
use Rattle.uart_16550.specs.Tty.{Starts}
use Rattle.uart_16550.proofs.determined.Doings.{Does, does_so, does_sym, does_next, does_front}
use Rattle.uart_16550.proofs.determined.Init.{inits_determined}
use Rattle.uart_16550.proofs.determined.Loopback.{tests_loopback_determined}

abbrev SetsUp : Config → Doing
SetsUp config = Inits {T = Unit {0}} config (Ok tt)

abbrev Tests : Result (Unit {0}) LoopbackError → Doing
Tests result = TestsLoopback {T = Unit {0}} result

-- set up and tested, twice
tested : {C : Type 0} (config : Config) → IsComputable config → (f : Fields) (a b : Result (Unit {0}) LoopbackError) → (a ≡ b → C) →
    Does C f (Next (SetsUp config) (Tests a)) (Next (SetsUp config) (Tests b))
tested config ok f a b k = does_next (inits_determined config ok f (Ok tt) (Ok tt)) (λ x g. does_so k (tests_loopback_determined g a b))

-- set up, and not set up
set_up_apart : (config : Config) → IsComputable config → (f : Fields) (a : Result (Unit {0}) LoopbackError) (e : InitError) →
    Does ⊥ f (Next (SetsUp config) (Tests a)) (Inits {T = Unit {0}} config (Err e))
set_up_apart config ok f a e = does_front {H = Tests a} (does_so (λ t. cc) (inits_determined config ok f (Ok tt) (Err e)))

pub starts_determined : (config : Config) → IsComputable config → (f : Fields) (a b : Result (Unit {0}) Uart16550TtyError) →
    Does (a ≡ b) f (Starts config a) (Starts config b)
starts_determined config ok f (Err (AddressError d)) b = record { at = λ l m x y p q. absurd p }
starts_determined config ok f a (Err (AddressError d)) = record { at = λ l m x y p q. absurd q }
starts_determined config ok f (Ok x) (Ok y) = tested config ok f (Ok tt) (Ok tt) (λ t. refl)
starts_determined config ok f (Ok x) (Err (TestError d)) = tested config ok f (Ok tt) (Err d) (λ t. absurd cc)
starts_determined config ok f (Err (TestError d)) (Ok y) = tested config ok f (Err d) (Ok tt) (λ t. absurd cc)
starts_determined config ok f (Err (TestError d)) (Err (TestError e)) = tested config ok f (Err d) (Err e) (λ t. ap (λ z. lift d z) t)
  where
    lift : LoopbackError → Result (Unit {0}) LoopbackError → Result (Unit {0}) Uart16550TtyError
    lift other (Ok x) = Err (TestError other)
    lift other (Err z) = Err (TestError z)
starts_determined config ok f (Ok x) (Err (NotSetUp d)) = does_so absurd (set_up_apart config ok f (Ok tt) d)
starts_determined config ok f (Err (TestError d)) (Err (NotSetUp e)) = does_so absurd (set_up_apart config ok f (Err d) e)
starts_determined config ok f (Err (NotSetUp d)) (Ok y) = does_sym (set_up_apart config ok f (Ok tt) d)
starts_determined config ok f (Err (NotSetUp d)) (Err (TestError e)) = does_sym (set_up_apart config ok f (Err e) d)
starts_determined config ok f (Err (NotSetUp d)) (Err (NotSetUp e)) =
    does_so (λ t. ap (λ z. lift d z) t) (inits_determined config ok f (Err d) (Err e))
  where
    lift : InitError → Result (Unit {0}) InitError → Result (Unit {0}) Uart16550TtyError
    lift other (Ok x) = Err (NotSetUp other)
    lift other (Err z) = Err (NotSetUp z)
