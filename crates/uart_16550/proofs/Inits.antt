-- The pieces of the initialisation.
use Rattle.std.proofs.Common.{◌≡◌, ◌∙◌, ℕ, Bool, true, false, List, [], ◌∷◌, inr, ap, subst, refl, Result, Option}
use Rattle.uart_spec.specs.Baud.{IsDivisorAnswer}
use Rattle.uart_spec.specs.BaudRate.{to_integer}
use Rattle.uart_spec.specs.declared.errors.InitError.{InitError}
use Rattle.uart_spec.specs.declared.errors.InvalidDivisorError.{InvalidDivisorError}
use Rattle.uart_spec.specs.declared.config.Config.{Config}
use Rattle.uart_spec.specs.declared.registers.offsets.TheConstants as offsets
use Rattle.uart_spec.specs.declared.access.Access.{Access}
use Rattle.uart_spec.specs.declared.access.Access.TheVariants.{Write}
use Rattle.uart_16550.specs.Grammar.{Settings, Only, Then}
use Rattle.uart_16550.specs.Driver.{Made, Did, Plain, with_config, with_fifo}
use Rattle.uart_16550.specs.Init.{first_pattern, second_pattern, Keeps, KeepsPatterns, ChecksPresence, SetsFifo, DrainsReceiver, Begins}
use Rattle.uart_16550.specs.Init.{DivisorOf, Inits, frame_bits, line_writes, raised_outputs}
use Rattle.uart_spec.specs.declared.registers.fifo_trigger_level.FifoTriggerLevel.{FifoTriggerLevel}
use Rattle.uart_spec.specs.declared.setup.Setup.{Setup}
use Rattle.uart_16550.specs.Frame.{frame_writes, SetsControl}
use Rattle.uart_16550.specs.Setup.{WaitsIf, SetsUp, InitsWith}
use Rattle.uart_16550.specs.declared.driver.Uart16550.{Uart16550}
use Rattle.uart_16550.proofs.Making.{made_then, made_among}
use Rattle.uart_16550.proofs.Doings.{did_then, did_made, did_set}

-- the second pattern decides, if the first is kept
pub second_decides : (kept : Bool) (s : Settings) (l : List Access) → Then (Keeps first_pattern true) (Keeps second_pattern kept) s l →
    KeepsPatterns kept s l
second_decides true s l t = t
second_decides false s l t = inr t

-- the answer at the baud rate's number
pub given_at : (config : Config) (result : Result ℕ InvalidDivisorError) (baud : ℕ) → baud ≡ to_integer config.baud_rate →
    IsDivisorAnswer config.frequency baud config.prescaler_division_factor result → DivisorOf config result
given_at config result baud same given =
    let A : ℕ → Type 0 = λ rate. IsDivisorAnswer config.frequency rate config.prescaler_division_factor result in subst A same given

-- from the configuration stored to MCR written
pub begun : {B : Type 0} {step : B → Access → B → Type 0} (config : Config) (divisor frame control : ℕ)
    (fifo : Bool) {a b c d e f : Uart16550 B} →
    frame ≡ frame_bits config → control ≡ raised_outputs →
    Made step (ChecksPresence true) (record a { config = config }) b → Made step (Only (line_writes divisor frame)) b c →
    Made step (SetsFifo config.fifo_trigger_level fifo) c d →
    Did step (Plain DrainsReceiver) (record d { fifo_enabled = fifo }) e → Made step (Only (Write offsets.MCR control ∷ [])) e f →
    Did step (Begins config divisor fifo) a f
begun {B} {step} config divisor frame control fifo {a} {b} {c} {d} {e} {f} is_frame is_control present line on drained written =
    let framed : Made step (Only (line_writes divisor (frame_bits config))) b c =
    made_among (λ l t. record { is = t.is ∙ ap (line_writes divisor) is_frame }) line in
    let controlled : Made step (Only (Write offsets.MCR raised_outputs ∷ [])) e f =
    made_among (λ l t. record { is = t.is ∙ ap (λ (x : ℕ). Write offsets.MCR x ∷ []) is_control }) written in
    did_then (did_set step (with_config config) a (record a { config = config }) refl refl)
    (did_then (did_made (made_then present (made_then framed on)))
    (did_then (did_set step (with_fifo fifo) d (record d { fifo_enabled = fifo }) refl refl)
    (did_then drained (did_made controlled))))

-- the frame of the configuration was written
pub frame_written : {B : Type 0} {step : B → Access → B → Type 0} (config : Config) (divisor frame : ℕ) {a b : Uart16550 B} →
    frame ≡ frame_bits config → Made step (Only (frame_writes divisor frame)) a b →
    Made step (Only (frame_writes divisor (frame_bits config))) a b
frame_written config divisor frame is_frame made =
    made_among (λ l t. record { is = t.is ∙ ap (λ (x : ℕ). frame_writes divisor x) is_frame }) made

-- from the first write to MCR
pub made_set_up : {B : Type 0} {step : B → Access → B → Type 0} (setup : Setup) (config : Config) (divisor frame : ℕ) (fifo : Bool)
    {b c d e f : Uart16550 B} → frame ≡ frame_bits config → Made step (Only (line_writes divisor frame)) b c →
    Made step (SetsFifo config.fifo_trigger_level fifo) c d →
    Did step (Plain DrainsReceiver) (record d { fifo_enabled = fifo }) e → Made step (SetsControl setup.outputs.0) e f →
    Did step (SetsUp setup config divisor fifo) b f
made_set_up {B} {step} setup config divisor frame fifo {b} {c} {d} is_frame line on drained written =
    let framed : Made step (Only (line_writes divisor (frame_bits config))) b c =
    made_among (λ l t. record { is = t.is ∙ ap (line_writes divisor) is_frame }) line in
    did_then (did_made (made_then framed on))
    (did_then (did_set step (with_fifo fifo) d (record d { fifo_enabled = fifo }) refl refl)
    (did_then drained (did_made written)))

-- the wait that was asked for, under another name
pub waited : {B : Type 0} {step : B → Access → B → Type 0} (asked given empty : Bool) {a b : Uart16550 B} → asked ≡ given →
    Made step (WaitsIf asked empty) a b → Made step (WaitsIf given empty) a b
waited {B} {step} asked given empty {a} {b} same made = let M : Bool → Type 0 = λ x. Made step (WaitsIf x empty) a b in subst M same made

-- the FIFO step, for a level under another name
pub leveled : {B : Type 0} {step : B → Access → B → Type 0} (level given : Option FifoTriggerLevel) (on : Bool) {a b : Uart16550 B} →
    level ≡ given → Made step (SetsFifo level on) a b → Made step (SetsFifo given on) a b
leveled {B} {step} level given on {a} {b} same made =
    let M : Option FifoTriggerLevel → Type 0 = λ x. Made step (SetsFifo x on) a b in subst M same made
