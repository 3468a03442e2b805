use Rattle.std.proofs.Common.{◌≡◌, ◌∙◌, ◌+◌, ◌-◌, ◌<◌, ℕ, List, length, take, ap, arith, Result, Ok, Err, OnErr}
use Rattle.std.specs.List.{slice_range}
use Rattle.std.specs.Vec.{with_items}
use borrow.Rule.Slice.PartMut.{put_mid}
use Rattle.uart_judges.proofs.Filled.{ahead_kept, ahead_same, read_items, same_items}
use Rattle.uart_judges.proofs.recording.window.Window.read_from.Goals as goal

on_err : {T E P : Type 0} (result : Result T E) → P → OnErr result P
on_err (Ok x) p = tt
on_err (Err e) p = p

pub returns-in_err-count-clause-kept : goal.returns-in_err-count-clause-kept
returns-in_err-count-clause-kept g c =
    let s = c.args.self.now in
    ahead_same (slice_range s.bytes.items s.start s.end) _ (g.R.Read.remaining c.args.reader.now) (g.R.Read.remaining c.read.new.self)
    (same_items s.bytes c.deref_mut.result.now c.read.new.buf s.start s.end c.deref_mut.ensures.value s.ordered (omega arith) (omega arith))
    c.in_err-count.ensures.bytes

pub returns-in_err-count-clause-items : goal.returns-in_err-count-clause-items
returns-in_err-count-clause-items g c =
    let s = c.args.self.now in
    on_err c.from_residual.result
    (same_items s.bytes c.deref_mut.result.now c.read.new.buf s.start s.end c.deref_mut.ensures.value s.ordered (omega arith) (omega arith))

pub returns-clause-kept : goal.returns-clause-kept
returns-clause-kept g c =
    let s = c.args.self.now in
    let count : ℕ = c.in_ok-count.count in
    let buf : List ℕ = c.read.new.buf in
    ahead_kept (slice_range s.bytes.items s.start s.end) _ (take count buf) (g.R.Read.remaining c.args.reader.now)
    (g.R.Read.remaining c.read.new.self)
    (read_items s.bytes c.deref_mut.result.now buf s.start s.end count c.deref_mut.ensures.value s.ordered (omega arith) (omega arith)
    c.in_ok-count.ensures.bound.0)
    c.in_ok-count.ensures.bytes.0

pub returns-clause-end : goal.returns-clause-end
returns-clause-end g c = λ none some.
    let s = c.args.self.now in
    let all : List ℕ = c.deref_mut.result.now in
    let buf : List ℕ = c.read.new.buf in
    let end : s.end + c.in_ok-count.count ≡ s.end = omega arith in
    let room : 0 < length buf = omega arith in (
      ap (λ (n : ℕ). slice_range (with_items s.bytes (put_mid s.end (length all - s.end) all buf)).items s.start n) end
          ∙ same_items s.bytes all buf s.start s.end c.deref_mut.ensures.value s.ordered (omega arith) (omega arith),
      c.in_ok-count.ensures.bytes.1 none room,
    )
