-- What the backend holds beside the registers.
use Rattle.std.specs.Prelude.{◌≡◌, ℕ, List, [], Option, None}
use Rattle.std.specs.Int.NonZero.{non_zero_u64_get}
use Rattle.uart_design_ware.specs.declared.fault.DesignWareFault.{DesignWareFault}
use Rattle.uart_design_ware.specs.declared.kept.KeptCharacter.{KeptCharacter}
use Rattle.uart_design_ware.specs.declared.state.DesignWare.{DesignWare}

-- the registers of a backend
abbrev pub registers_of : {R : Type 0} → DesignWare R → R
registers_of d = d.registers

-- a backend without its registers: the patience, the characters that are kept, the errors that looks have cleared in
-- the chip and that nothing has shown, what the driver wrote last to LCR, IER and FCR, and the fault
pub record Held : Type 0 where
  pub patience : ℕ
  pub kept : List KeptCharacter
  pub cleared : ℕ
  pub line : ℕ
  pub interrupts : ℕ
  pub fifo_control : ℕ
  pub fault : Option DesignWareFault

-- what this backend holds beside the registers
abbrev pub held : {R : Type 0} → DesignWare R → Held
held d = record {
  patience = non_zero_u64_get d.patience;
  kept = d.kept;
  cleared = d.cleared.0;
  line = d.line.0;
  interrupts = d.interrupts.0;
  fifo_control = d.fifo_control.0;
  fault = d.fault;
}

-- a backend over these registers that has made no access
pub record IsFresh {R : Type 0} (d : DesignWare R) (given : R) (patience : ℕ) : Type 0 where
  pub registers : d.registers ≡ given
  pub begins : held d ≡ record {
    patience = patience;
    kept = [];
    cleared = 0;
    line = 0;
    interrupts = 0;
    fifo_control = 0;
    fault = None;
  }
