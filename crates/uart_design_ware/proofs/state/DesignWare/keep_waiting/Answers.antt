use Rattle.std.proofs.Common.{◌≡◌, ℕ, false, List, [], ◌∷◌, ◌++◌, sym, ◌∙◌, ap}
use Rattle.uart_spec.specs.Bits.{has}
use Rattle.uart_spec.specs.declared.access.Access.{Access}
use Rattle.uart_spec.specs.declared.access.Access.TheVariants.{Read}
use Rattle.uart_spec.specs.declared.registers.line_status.TheConstants.LSR
use Rattle.uart_spec.specs.declared.registers.offsets.TheConstants as offsets
use Rattle.uart_design_ware.specs.declared.kept.KeptCharacter.{KeptCharacter}
use Rattle.uart_design_ware.specs.Held.{Held, held}
use Rattle.uart_design_ware.specs.Doing.{Did, Nothing, Looks, AnyOf, Where}
use Rattle.uart_design_ware.specs.Line.{Keeps, is_full}
use Rattle.uart_design_ware.proofs.Doings.{path_then, did_then, did_nothing, did_any, did_where, did_if, did_else, did_more}
use Rattle.uart_design_ware.proofs.state.DesignWare.keep_waiting.Goals as goal

pub returns-then-not-contains : goal.returns-then-not-contains
returns-then-not-contains g c =
    let inv = c.loop-self.invariant in
    let shows = sym (c.if-not-contains.ensures tt) in
    let not_full = sym c.loop-self-test.ensures.full in
    did_any inv.0 (did_then inv.1
    (did_else is_full Nothing (AnyOf (λ lsr. Where (has lsr LSR.DATA_READY.0 ≡ false) (Looks lsr))) not_full
    (did_any c.look.result.0 (did_where shows c.look.ensures))))

pub returns : goal.returns
returns g c =
    let inv = c.loop-self.invariant in
    let full = sym c.loop-self-test.ensures.full in
    did_any inv.0 (did_then inv.1
    (did_if is_full Nothing (AnyOf (λ lsr. Where (has lsr LSR.DATA_READY.0 ≡ false) (Looks lsr))) full did_nothing))

pub loop-self-preserved : goal.loop-self-preserved
loop-self-preserved g c =
    let inv = c.loop-self.invariant in
    let old = c.loop-self.self in
    let look = c.look.ensures in
    let load = c.load-byte.ensures in
    let lsr = c.look.result.0 in
    let byte = c.load-byte.result in
    let looked = c.look.new.self in
    let loaded = c.load-byte.new.self in
    let shows = sym (c.if-not-contains.ensures tt) in
    let not_full = sym c.loop-self-test.ensures.full in
    let zero = c.from_bits_retain-self.ensures tt in
    let character : KeptCharacter = record { byte = byte; errors = looked.cleared } in
    let lists = ap (λ (x : List Access). x ++ load.list) look.does.0 ∙ ap (λ (x : List Access). Read offsets.LSR lsr ∷ x) load.does.0 in
    let after =
    ap (λ (k : List KeptCharacter). record (held loaded) { kept = k }) c.keep.ensures
    ∙ ap (λ (h : Held). record h { kept = h.kept ++ character ∷ [] })
    (load.does.1 ∙ ap (λ (n : ℕ). record (held looked) { cleared = n }) zero)
    ∙ ap (λ (h : Held). record h {
      kept = h.kept ++ record { byte = byte; errors = record { 0 = h.cleared } } ∷ [];
      cleared = 0;
    }) look.does.1 in
    let kept : Did g.R.Backend.step (Keeps (lsr, byte)) old (record loaded { kept = c.keep.new.self }) = record {
      list = look.list ++ load.list;
      path = path_then g.R.Backend.step old.registers looked.registers loaded.registers look.list load.list look.path load.path;
      does = (not_full, shows, lists, after);
    } in
    (inv.0 ++ (lsr, byte) ∷ [], did_more Keeps inv.0 (lsr, byte) inv.1 kept)
