use Rattle.std.proofs.Common.{◌∙◌, refl, sym}
use Rattle.std.proofs.Math.Nat.{mod-eq_of_lt}
use Rattle.uart_spec.specs.declared.registers.frame.WordLength.TheVariants.{FiveBits, SixBits, SevenBits, EightBits}
use Rattle.uart_chip.proofs.Bits.{cut_with}
use Rattle.uart_chip.proofs.controlling.cut_to.Goals as goal

pub returns-in-FiveBits : goal.returns-in-FiveBits
returns-in-FiveBits c = cut_with _ _ 0 c.args.byte c.if-not-cuts.false ((c.in-FiveBits.ensures FiveBits).0 refl)

pub returns-in-SixBits : goal.returns-in-SixBits
returns-in-SixBits c = cut_with _ _ 1 c.args.byte c.if-not-cuts.false ((c.in-SixBits.ensures SixBits).0 refl)

pub returns-in-SevenBits : goal.returns-in-SevenBits
returns-in-SevenBits c = cut_with _ _ 2 c.args.byte c.if-not-cuts.false ((c.in-SevenBits.ensures SevenBits).0 refl)

pub returns-in-EightBits : goal.returns-in-EightBits
returns-in-EightBits c =
    sym (mod-eq_of_lt {n = c.args.byte} {m = 256} c.ranges.byte.fits) ∙
    cut_with _ _ 3 c.args.byte c.if-not-cuts.false ((c.in-EightBits.ensures EightBits).0 refl)
