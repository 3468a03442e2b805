-- After an `init` a session begins with no cause but those of the configuration.
use Rattle.std.proofs.Common.{◌≡◌, ◌<◌, ◌≤◌, ◌==◌, ℕ, Bool, true, false, List, Some, sym, ◌∙◌, ap, subst, arith}
use Rattle.std.specs.Prelude.{◌+◌, ◌*◌, nat_le, if◌then◌else◌}
use Rattle.std.specs.List.{AllByRecursion}
use Rattle.std.proofs.lemmas.Grind.{common_steps}
use Rattle.std.proofs.lemmas.Nat.Bits.{bit_at_above}
use Rattle.uart_spec.specs.Bits.{has, has_any}
use Rattle.uart_spec.specs.Fields.{parity_code, word_length_code}
use Rattle.uart_spec.specs.declared.config.Config.{Config}
use Rattle.uart_spec.specs.declared.registers.frame.Parity.{Parity}
use Rattle.uart_spec.specs.declared.registers.frame.Parity.TheVariants.{Disabled}
use Rattle.uart_spec.specs.declared.registers.frame.WordLength.{WordLength}
use Rattle.uart_spec.specs.declared.registers.frame.WordLength.TheVariants.{EightBits, FiveBits}
use Rattle.uart_spec.specs.declared.registers.line_control.TheConstants.LCR as lcr_bits
use Rattle.uart_spec.specs.declared.registers.modem_control.TheConstants.MCR
use Rattle.uart_16550.specs.Driver.{Fields, fields}
use Rattle.uart_16550.specs.Init.{frame_bits}
use Rattle.uart_16550.specs.Tty.{inner_of}
use Rattle.uart_call.specs.declared.call.Call.{Call}
use Rattle.uart_chip.proofs.Bits.{has_bit, has_one}
use Rattle.uart_judges.specs.Findings.{enables_some, is_cut_off}
use Rattle.uart_judges.specs.Shows.{is_cut}
use Rattle.uart_run.proofs.initialising.Inits.{frame-dlab}
use Rattle.uart_run.specs.Ready.{IsInitialised}
use Rattle.uart_run.specs.Run.{State, machine_of}
use Rattle.uart_judges_runs.specs.Causes.{AsksFor, Causes, Fits, GivesOnly, IsConfiguredFor}
use Rattle.uart_judges_runs.proofs.GoodLists.{part_off}

-- a frame has no break, and no bit above it
length_code : (length : WordLength) → word_length_code length ≤ 3
length_code FiveBits = omega arith
length_code _ = omega arith

parity_few : (parity : Parity) → parity_code parity ≤ 7
parity_few Disabled = omega arith
parity_few _ = omega arith

stop_few : (stop : Bool) → (if stop then lcr_bits.MORE_STOP_BITS.0 else 0) ≤ 4
stop_few true = omega arith
stop_few false = omega arith

low_bits : (v : ℕ) → v < 64 → has v 64 ≡ false
low_bits v few = has_one 6 v ∙ (has_bit 6 v ∙ ap (λ (bit : ℕ). bit == 1) (bit_at_above v 6 6 few (omega arith)))

few_bits : (length stop parity : ℕ) → length ≤ 3 → stop ≤ 4 → parity ≤ 7 → length + stop + 8 * parity < 64
few_bits length stop parity p q r = omega (arith, p, q, r)

no_break : (length : WordLength) (stop : Bool) (parity : Parity) →
    has (word_length_code length + (if stop then lcr_bits.MORE_STOP_BITS.0 else 0) + lcr_bits.PARITY0.0 * parity_code parity)
    lcr_bits.SET_BREAK.0 ≡ false
no_break length stop parity = low_bits _ (few_bits _ _ _ (length_code length) (stop_few stop) (parity_few parity))

-- a character of eight bits has room for each byte
eight_cut : (stop : Bool) (parity : Parity) (byte : ℕ) → nat_le 256 byte ≡ false →
    is_cut (record {
      0 = word_length_code EightBits + (if stop then lcr_bits.MORE_STOP_BITS.0 else 0) + lcr_bits.PARITY0.0 * parity_code parity;
    }) byte ≡ false
eight_cut true Disabled byte e = e
eight_cut false Disabled byte e = e
eight_cut _ _ byte e = e

pub eight_fit : (config : Config) (byte : ℕ) → config.data_bits ≡ EightBits → byte < 256 → Fits (frame_bits config) byte
eight_fit config byte eight few =
    let e : nat_le 256 byte ≡ false = grind (arith, common_steps) in
    ap (λ (w : WordLength). is_cut (record {
      0 = word_length_code w + (if config.extra_stop_bits then lcr_bits.MORE_STOP_BITS.0 else 0)
          + lcr_bits.PARITY0.0 * parity_code config.parity;
    }) byte) eight ∙ eight_cut config.extra_stop_bits config.parity byte e

pub initialised_gives : (c : Causes) (config : Config) (calls : List Call) (t : State) → IsInitialised config t →
    (fields (inner_of t)).config ≡ config → IsConfiguredFor c config (machine_of t).chip.model →
    AllByRecursion (AsksFor c (frame_bits config)) calls → GivesOnly c calls (fields (inner_of t)) (machine_of t)
initialised_gives c config calls t is stored set asks =
    let f : Fields = fields (inner_of t) in
    let m = machine_of t in
    let dlab = ap (λ (v : ℕ). has_any v lcr_bits.DLAB.0) is.lcr ∙ frame-dlab config in
    record {
      begins = record { dlab = dlab; loopback = ap (λ (v : ℕ). has_any v MCR.LOOP_BACK.0) is.mcr; fifo = is.knows };
      interrupts = λ e.
          ap (λ (v : ℕ). enables_some (Some (record { 0 = v }))) is.ier ∙ part_off config.interrupts.0 15 (set.interrupts e);
      out2 = λ e. ap (λ (v : ℕ). is_cut_off (Some (record { 0 = v }))) is.mcr;
      set_up = record {
        dlab = has_one 7 m.chip.latches.lcr ∙ dlab;
        not_in_break = λ e. ap (λ (v : ℕ). has v lcr_bits.SET_BREAK.0) is.lcr
            ∙ no_break config.data_bits config.extra_stop_bits config.parity;
        checks = λ e. ap (λ (k : Config). k.check_cts_before_sending) stored ∙ set.checks e;
        fifos = λ e. sym is.knows ∙ (is.fifo ∙ set.fifos e);
      };
      asks = subst (λ (line : ℕ). AllByRecursion (AsksFor c line) calls) (sym is.lcr) asks;
    }
