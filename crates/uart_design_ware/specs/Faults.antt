-- Faults: how one begins, how it ends, and what it hides meanwhile.
use Rattle.std.specs.Prelude.{◌≡◌, ℕ, Bool, true, false, not, ◌&&◌, Option, Some, None}
use Rattle.uart_spec.specs.Bits.{has}
use Rattle.uart_spec.specs.declared.registers.line_control.TheConstants.LCR
use Rattle.uart_spec.specs.declared.registers.offsets.TheConstants as offsets
use Rattle.uart_design_ware.specs.declared.fault.DesignWareFault.{DesignWareFault}
use Rattle.uart_design_ware.specs.declared.fault.DesignWareFault.TheVariants.{LineControlIgnored, InterruptWithoutEnd}
use Rattle.uart_design_ware.specs.Held.{Held}
use Rattle.uart_design_ware.specs.Doing.{Doing, Sets, Nothing, Reads, Writes, Next, AnyOf, Where, If}

-- whether a value of LCR has DLAB, which makes offsets 0 and 1 the divisor latch
abbrev pub opens_latch : ℕ → Bool
opens_latch line = has line LCR.DLAB.0

-- with this fault
abbrev pub with_fault : Option DesignWareFault → Held → Held
with_fault fault h = record h { fault = fault }

-- proved: While there is a fault the chip's interrupts are off, if IER can be reached. With the next write of LCR that
--   is taken IER is what the driver wrote to it
-- on: `BeginsFault`, `EndsFault`, `WritesInterrupts`, on `DesignWare::write`

-- a fault begins: all interrupts are disabled, if LCR shows that IER can be reached
abbrev pub BeginsFault : DesignWareFault → Doing
BeginsFault fault = Next (Sets (with_fault (Some fault)))
    (AnyOf (λ shown. Next (Reads offsets.LCR shown) (If (λ h. opens_latch shown) Nothing (Writes offsets.IER 0))))

-- whether there is a fault
abbrev pub is_faulty : Option DesignWareFault → Bool
is_faulty None = false
is_faulty (Some fault) = true

-- whether there is a fault that ends now: LCR was taken, and IER can be reached
abbrev pub ends_now : Held → Bool
ends_now h = is_faulty h.fault && not (opens_latch h.line)

-- IER gets what the driver wrote to it
abbrev pub RestoresInterrupts : Doing
RestoresInterrupts h = Writes offsets.IER h.interrupts h

-- a fault ends, if there is one and IER can be reached
abbrev pub EndsFault : Doing
EndsFault = If ends_now (Next (Sets (with_fault None)) RestoresInterrupts) Nothing

-- whether the chip has ignored LCR
abbrev pub is_ignored : Option DesignWareFault → Bool
is_ignored None = false
is_ignored (Some LineControlIgnored) = true
is_ignored (Some InterruptWithoutEnd) = false

-- two values are not the same
abbrev pub differs : Bool → Bool → Bool
differs true b = not b
differs false b = b

-- whether offsets 0 and 1 are something else than the driver means: after an ignored write of LCR, one read of LCR
-- shows DLAB otherwise than the driver wrote it. Else no access is made
abbrev pub LooksIfMistaken : Bool → Doing
LooksIfMistaken mistaken = If (λ h. is_ignored h.fault)
    (AnyOf (λ shown h l after.
    (mistaken ≡ differs (opens_latch shown) (opens_latch h.line)) × Reads offsets.LCR shown h l after))
    (Where (mistaken ≡ false) Nothing)
