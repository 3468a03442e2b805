-- What the driver's reads and writes do.
use Rattle.std.specs.Prelude.{◌≡◌, ◌-◌, ◌<◌, ◌⊎◌, ℕ, Bool, true, false, not, ◌&&◌, ◌||◌, ◌==◌, List, [], ◌∷◌, length}
use Rattle.std.specs.Prelude.{nat_lt, if◌then◌else◌}
use Rattle.std.specs.Int.RustNames.{bit_and, bit_or, bit_xor}
use Rattle.bitflags.specs.Sets.{without}
use Rattle.uart_spec.specs.Bits.{has, has_any}
use Rattle.uart_spec.specs.declared.access.Access.{Access}
use Rattle.uart_spec.specs.declared.access.Access.TheVariants.{Read, Write}
use Rattle.uart_spec.specs.declared.registers.fifo_control.TheConstants.FCR
use Rattle.uart_spec.specs.declared.registers.interrupt_enable.TheConstants.IER
use Rattle.uart_spec.specs.declared.registers.line_status.TheConstants.LSR
use Rattle.uart_spec.specs.declared.registers.offsets.TheConstants as offsets
use Rattle.uart_design_ware.specs.declared.fault.DesignWareFault.TheVariants.{InterruptWithoutEnd}
use Rattle.uart_design_ware.specs.declared.kept.KeptCharacter.{KeptCharacter}
use Rattle.uart_design_ware.specs.declared.serving.TheConstants.{CAUSE, NONE, DATA, BUSY_DETECT, TIMEOUT, ROUNDS}
use Rattle.uart_design_ware.specs.declared.state.DesignWare.{DesignWare}
use Rattle.uart_design_ware.specs.declared.registers.TheConstants.{USR}
use Rattle.uart_design_ware.specs.Held.{Held}
use Rattle.uart_design_ware.specs.Doing.{Doing, Did, Sets, Nothing, Reads, Writes, Looks, Next, AnyOf, Where, If}
use Rattle.uart_design_ware.specs.Doing.{InOrder}
use Rattle.uart_design_ware.specs.Faults.{opens_latch, BeginsFault, is_faulty, LooksIfMistaken}
use Rattle.uart_design_ware.specs.Line.{WritesLine}

-- whether an offset is of the divisor latch, as the driver takes it
abbrev pub is_latch : ℕ → Held → Bool
is_latch offset h = not (nat_lt offsets.DLM offset) && opens_latch h.line

-- a read of DATA: the first character that is kept, without an access, and what LSR has not shown of it is shown next.
-- If none is kept, the chip's
abbrev pub FirstOr : List KeptCharacter → ℕ → Doing
FirstOr [] answer h l after = Reads offsets.DATA answer h l after
FirstOr (first ∷ others) answer h l after = (answer ≡ first.byte)
    × Sets (λ h. record h { kept = others; cleared = bit_or h.cleared first.errors.0 }) h l after

abbrev pub ReadsData : ℕ → Doing
ReadsData answer h = FirstOr h.kept answer h

-- what LSR shows of data and of room
abbrev pub reach : ℕ
reach = bit_or (bit_or LSR.DATA_READY.0 LSR.THR_EMPTY.0) LSR.TRANSMITTER_EMPTY.0

-- what LSR shows if something is to be read
abbrev pub readable : ℕ
readable = bit_or LSR.DATA_READY.0 LSR.BREAK_INTERRUPT.0

-- what a look at LSR shows of the line, without errors. If neither data nor THR can be reached, there is none and no
-- room
abbrev pub line_state : ℕ → Bool → ℕ
line_state lsr mistaken =
    let state = without 8 lsr LSR.LINE_ERRORS.0 in if mistaken then without 8 state reach else state

-- what LSR shows for the character that the driver reads next: data, an overrun, and its own errors. If none is kept,
-- what the chip shows, with all errors that are saved
abbrev pub ShowsFor : List KeptCharacter → ℕ → ℕ → Doing
ShowsFor [] state answer h l after = (answer ≡ bit_or state h.cleared) × Sets (λ h. record h { cleared = 0 }) h l after
ShowsFor (first ∷ others) state answer h l after =
    (answer ≡ bit_or (bit_or (bit_or state LSR.DATA_READY.0) (bit_and h.cleared LSR.OVERRUN_ERROR.0)) first.errors.0)
    × Sets (λ h. record h {
      kept = record { byte = first.byte; errors = record { 0 = 0 } } ∷ others;
      cleared = without 8 h.cleared (bit_and h.cleared LSR.OVERRUN_ERROR.0);
    }) h l after

-- a read of LSR
abbrev pub ReadsStatus : ℕ → Doing
ReadsStatus answer = AnyOf (λ lsr. Next (Looks lsr) (AnyOf (λ mistaken.
    Next (LooksIfMistaken mistaken) (λ h. ShowsFor h.kept (line_state lsr mistaken) answer h))))

-- whether none is kept
abbrev pub is_empty : Held → Bool
is_empty h = length h.kept == 0

-- LSR shows neither data nor a break, or does
abbrev pub LooksForData : Bool → Doing
LooksForData none = AnyOf (λ lsr. Where (none ≡ not (has_any lsr readable)) (Looks lsr))

-- whether nothing is to be read: none is kept, DATA can be reached, and LSR shows neither data nor a break
abbrev pub FindsNoData : Bool → Doing
FindsNoData none = If is_empty
    (AnyOf (λ mistaken. Next (LooksIfMistaken mistaken)
    (If (λ h. mistaken) (Where (none ≡ false) Nothing) (LooksForData none))))
    (Where (none ≡ false) Nothing)

-- the interrupt that ISR shows
abbrev pub cause : ℕ → ℕ
cause isr = bit_and isr CAUSE

-- proved: A read of RBR that ends a reception timeout comes right behind a look at LSR that showed neither data nor a
--   break
-- on: `EndsTimeout`, on `DesignWare::read`

-- a reception timeout without data is ended by a read of DATA
abbrev pub EndsTimeout : Bool → Doing
EndsTimeout ended = Next (FindsNoData ended) (If (λ h. ended) (AnyOf (λ byte. Reads offsets.DATA byte)) Nothing)

-- an interrupt that the driver cannot serve is ended, or it is another one. A read of USR ends a busy detect
abbrev pub EndsInterrupt : ℕ → Bool → Doing
EndsInterrupt isr ended = If (λ h. cause isr == BUSY_DETECT) (Where (ended ≡ true) (AnyOf (λ usr. Reads USR usr)))
    (If (λ h. cause isr == TIMEOUT) (EndsTimeout ended) (Where (ended ≡ false) Nothing))

-- ISR is read, and the interrupt that it shows is ended, or is another one
abbrev pub Round : ℕ → Bool → Doing
Round isr ended = Next (Reads offsets.ISR isr) (EndsInterrupt isr ended)

-- what ISR shows, with this for the interrupt
abbrev pub with_cause : ℕ → ℕ → ℕ
with_cause isr shown = bit_or (bit_and isr (255 - CAUSE)) shown

-- ISR as the driver gets it: nothing is pending in the chip for data that are kept here
abbrev pub shown_isr : ℕ → Held → ℕ
shown_isr isr h =
    if (cause isr == NONE) && (not (is_empty h) && has h.interrupts IER.DATA_READY.0) then with_cause isr DATA else isr

-- what ISR showed last, or at first
abbrev pub last_of : ℕ → List ℕ → ℕ
last_of shown [] = shown
last_of shown (isr ∷ others) = last_of isr others

-- interrupts are ended, fewer than the limit, and then ISR shows another or none
abbrev pub ServesLater : ℕ → Doing
ServesLater answer h l after = (ended : List ℕ) × (isr : ℕ) × (length ended < ROUNDS)
    × Next (InOrder (λ isr. Round isr true) ended)
    (Next (Round isr false) (λ h l after. (answer ≡ shown_isr isr h) × Nothing h l after)) h l after

-- as many interrupts as the limit were ended, and there may be another. It is a fault
abbrev pub NeverEnds : ℕ → Doing
NeverEnds answer h l after = (ended : List ℕ) × (length ended ≡ ROUNDS)
    × (answer ≡ with_cause (last_of NONE ended) NONE)
    × Next (InOrder (λ isr. Round isr true) ended) (BeginsFault InterruptWithoutEnd) h l after

-- proved: A read of ISR ends at most four interrupts that the driver cannot serve. One that does not end is the fault
--   `InterruptWithoutEnd`
-- on: `ReadsInterrupt`, on `DesignWare::read`

-- a read of ISR
abbrev pub ReadsInterrupt : ℕ → Doing
ReadsInterrupt answer h l after = ServesLater answer h l after ⊎ NeverEnds answer h l after

-- a read of a register that is not of the latch
abbrev pub ReadsPlain : ℕ → ℕ → Doing
ReadsPlain offset answer = If (λ h. offset == offsets.DATA) (ReadsData answer)
    (If (λ h. offset == offsets.LSR) (ReadsStatus answer)
    (If (λ h. offset == offsets.ISR) (ReadsInterrupt answer) (Reads offset answer)))

-- a read of a register
abbrev pub ReadsRegister : ℕ → ℕ → Doing
ReadsRegister offset answer = If (is_latch offset) (Reads offset answer) (ReadsPlain offset answer)

-- whether this is offset 0 or 1, which DLAB changes
abbrev pub is_shared : ℕ → Bool
is_shared offset = not (nat_lt offsets.IER offset)

-- whether a register is something else than the driver means: a look, if DLAB changes it
abbrev pub LooksAt : ℕ → Bool → Doing
LooksAt offset mistaken = If (λ h. is_shared offset) (LooksIfMistaken mistaken) (Where (mistaken ≡ false) Nothing)

-- proved: Each read and write of the driver makes exactly the accesses of `DoesAccess`, returns what that says, and
--   holds afterwards what that says
-- on: `DesignWare::read`, `DesignWare::write`

-- what a read by the driver does: offsets 0 and 1 read as 0 while they are something else than the driver means
abbrev pub Answers : ℕ → ℕ → Doing
Answers offset answer = AnyOf (λ mistaken. Next (LooksAt offset mistaken)
    (If (λ h. mistaken) (Where (answer ≡ 0) Nothing) (ReadsRegister offset answer)))

-- a write of IER is remembered, and made if there is no fault
abbrev pub WritesInterrupts : ℕ → Doing
WritesInterrupts value = Next (Sets (λ h. record h { interrupts = value }))
    (If (λ h. is_faulty h.fault) Nothing (Writes offsets.IER value))

-- whether a write of FCR empties the chip's receiver: it resets that, or it switches the FIFOs
abbrev pub empties : ℕ → Held → Bool
empties control h = has (bit_xor control h.fifo_control) FCR.FIFO_ENABLE.0 || has control FCR.RX_FIFO_RESET.0

-- the bits of FCR that reset, and do not stay
abbrev pub resets : ℕ
resets = bit_or FCR.RX_FIFO_RESET.0 FCR.TX_FIFO_RESET.0

-- what empties the chip's receiver empties this one
abbrev pub EmptiesKept : ℕ → Doing
EmptiesKept control = If (empties control) (Sets (λ h. record h { kept = [] })) Nothing

-- a write of FCR, which is remembered without the bits that reset
abbrev pub WritesFifoControl : ℕ → Doing
WritesFifoControl control = Next (EmptiesKept control)
    (Next (Sets (λ h. record h { fifo_control = without 8 control resets })) (Writes offsets.FCR control))

-- a write of another register than IER
abbrev pub WritesPlain : ℕ → ℕ → Doing
WritesPlain offset value = If (λ h. offset == offsets.FCR) (WritesFifoControl value)
    (If (λ h. offset == offsets.LCR) (WritesLine value) (Writes offset value))

-- a write that reaches offset 0 or 1 only if these are what the driver means
abbrev pub WritesIfMeant : ℕ → ℕ → Doing
WritesIfMeant offset value = AnyOf (λ mistaken. Next (LooksAt offset mistaken)
    (If (λ h. mistaken) Nothing (WritesPlain offset value)))

-- whether this is IER, and not the latch
abbrev pub is_interrupts : ℕ → Held → Bool
is_interrupts offset h = (offset == offsets.IER) && not (is_latch offsets.IER h)

-- what a write by the driver does
abbrev pub Performs : ℕ → ℕ → Doing
Performs offset value = If (is_interrupts offset) (WritesInterrupts value) (WritesIfMeant offset value)

-- what an access by the driver does
abbrev pub DoesAccess : Access → Doing
DoesAccess (Read offset answer) = Answers offset answer
DoesAccess (Write offset value) = Performs offset value

-- an access by the driver leads from one state of the backend to another, on a path of steps of the registers
abbrev pub DesignWareStep : {R : Type 0} → (R → Access → R → Type 0) → DesignWare R → Access → DesignWare R → Type 0
DesignWareStep step old access new = Did step (DoesAccess access) old new
