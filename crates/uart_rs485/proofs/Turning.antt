-- What is written to MCR switches the transceiver as asked.
use Rattle.std.proofs.Common.{◌≡◌, ◌==◌, ℕ, Bool, true, false, not, refl, ◌∙◌, ap, bit_and, if◌then◌else◌}
use Rattle.std.proofs.lemmas.Nat.{and_assoc}
use lib.Bits.{and_zero_r}
use Rattle.uart_spec.specs.Bits.{has, has_any}
use Rattle.uart_spec.specs.declared.registers.modem_control.TheConstants.MCR
use Rattle.uart_16550.specs.Frame.{switched, unlooped}
use Rattle.uart_16550.proofs.Switching.{changes_only}
use Rattle.uart_rs485.specs.Directions.{turned}
use Rattle.uart_rs485.specs.Laws.{OutputsReceive, Switches, SwitchesTurn}
use Rattle.uart_rs485.specs.declared.direction.DirectionLine.{DirectionLine}
use Rattle.uart_rs485.specs.declared.direction.DirectionLine.TheVariants.{Rts, Dtr}

-- a bit that is as it is to be in a direction is that direction
as_switched : (set sends shown : Bool) → shown ≡ (if sends then set else not set) → (if shown then set else not set) ≡ sends
as_switched set sends shown is = rw is (go set sends)
  where
    go : (set sends : Bool) → (if (if sends then set else not set) then set else not set) ≡ sends
    go true true = refl
    go true false = refl
    go false true = refl
    go false false = refl

-- a mask that keeps a bit, and one that takes it away
through : (bit mask value : ℕ) → bit_and mask bit ≡ bit → has (bit_and value mask) bit ≡ has value bit
through bit mask value keeps = ap (λ (n : ℕ). n == bit) (and_assoc bit value mask ∙ ap (bit_and value) keeps)

gone : (bit mask value : ℕ) → bit_and mask bit ≡ 0 → bit_and (bit_and value mask) bit ≡ 0
gone bit mask value takes = and_assoc bit value mask ∙ (ap (bit_and value) takes ∙ and_zero_r value)

turned_by : (line : DirectionLine) (set sends : Bool) (outputs : ℕ) →
    Switches (record { line = line; sends_when_set = set }) sends (turned (record { line = line; sends_when_set = set }) sends outputs)
turned_by Rts set sends outputs =
    let on : Bool = if sends then set else not set in
    let value : ℕ = switched on 2 outputs in (
      as_switched set sends _ (through 2 223 value refl ∙ (changes_only 2 refl refl refl refl on outputs).0),
      ap (λ (n : ℕ). not (n == 0)) (gone 32 223 value refl),
    )
turned_by Dtr set sends outputs =
    let on : Bool = if sends then set else not set in
    let value : ℕ = switched on 1 outputs in (
      as_switched set sends _ (through 1 255 value refl ∙ (changes_only 1 refl refl refl refl on outputs).0),
      ap (λ (n : ℕ). not (n == 0)) (and_zero_r (bit_and value 255)),
    )

-- and without loopback
unlooped_by : (line : DirectionLine) (set sends : Bool) (mcr : ℕ) → Switches (record { line = line; sends_when_set = set }) sends mcr →
    Switches (record { line = line; sends_when_set = set }) sends (unlooped mcr)
unlooped_by Rts set sends mcr t = (
  ap (λ (shown : Bool). if shown then set else not set) (through 2 239 mcr refl) ∙ t.0,
  ap (λ (n : ℕ). not (n == 0)) (and_assoc 32 mcr 239) ∙ t.1,
)
unlooped_by Dtr set sends mcr t = (
  ap (λ (shown : Bool). if shown then set else not set) (through 1 239 mcr refl) ∙ t.0,
  ap (λ (n : ℕ). not (n == 0)) (and_zero_r (unlooped mcr)),
)

-- and loopback is off
pub unlooped_off : (mcr : ℕ) → has_any (unlooped mcr) MCR.LOOP_BACK.0 ≡ false
unlooped_off mcr = ap (λ (n : ℕ). not (n == 0)) (gone 16 239 mcr refl)

pub switches_turn : SwitchesTurn
switches_turn d sends mcr =
    unlooped_by d.line d.sends_when_set sends (turned d sends mcr) (turned_by d.line d.sends_when_set sends mcr)

pub outputs_receive : OutputsReceive
outputs_receive d outputs = (turned_by d.line d.sends_when_set false outputs, switches_turn d false outputs)
