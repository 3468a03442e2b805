use Rattle.std.proofs.Common.{◌≡◌, ◌∙◌, ℕ, List, Option, take, None, Some, Result, Ok, ap, sym, subst, arith}
use Rattle.std.specs.Io.KnownBytes.{prepend_known}
use Rattle.uart_judges.specs.Places.{IsLineRead}
use Rattle.uart_judges.specs.Streams.{ahead, IsFilled, IsNext}
use Rattle.uart_judges.specs.Windows.{items}
use Rattle.uart_judges.specs.declared.recording.cause.RecordingFault.{RecordingFault}
use Rattle.uart_judges.specs.declared.recording.entry.Entry.{Entry}
use Rattle.uart_judges.specs.declared.recording.place.Place.{Place}
use Rattle.uart_judges.proofs.Steps.{Goes, ends_at_limit, ends_empty, ends_entry, ends_fault, fills, passes}
use Rattle.uart_judges.proofs.recording.reading.Recording.next_entry.Goals as goal
use Rattle.uart_judges.proofs.recording.reading.Recording.next_entry.Goals.{After-map_err, After-read-found}

-- the bytes that were to be used at first, and those that the reader has left once the window was filled
abbrev first : (g : _) (c : goal.After-map_err g) → Option (List ℕ)
first g c = ahead c.args.self.now.window (g.R.Read.remaining c.args.self.now.reader)

abbrev left : (g : _) (c : goal.After-map_err g) → Option (List ℕ)
left g c = g.R.Read.remaining c.fill_line.new.self.reader

-- the window was filled: what is next is still what was next at first, and the window has the next line
filled : (g : _) (c : goal.After-map_err g) (found count : Option ℕ) → c.map_err.result ≡ Ok found → found ≡ count →
    Goes c.args.self.now.place (first g c) c.fill_line.new.self.place (ahead c.fill_line.new.self.window (left g c))
    × IsFilled count (items c.fill_line.new.self.window) (left g c)
filled g c found count was is =
    let mid = c.fill_line.new.self in
    let h = fills _ c.args.self.now.place c.lines.self.place mid.place (first g c)
    (ahead c.lines.self.window (g.R.Read.remaining c.lines.self.reader)) (items mid.window) (left g c) c.fill_line.result
    c.map_err.result found c.lines.invariant.goes c.fill_line.ensures.place c.fill_line.ensures.kept
    c.map_err.ensures.cases c.map_err.ensures.variant was c.fill_line.ensures.filled in
    (h.0, subst (λ (n : Option ℕ). IsFilled n (items mid.window) (left g c)) is h.1)

-- the line is read from the window
read : (g : _) (c : goal.After-read-found g) (found : Result (Option Entry) RecordingFault) → c.read-found.result ≡ found →
    IsLineRead c.fill_line.new.self.place (take c.in-Some.length (items c.fill_line.new.self.window)) found c.read-found.new.self
read g c found is =
    let now = c.read-found.new.self in
    subst (λ (l : List ℕ). IsLineRead c.fill_line.new.self.place (take c.in-Some.length l) found now) c.as_slice.ensures.value
    (c.read-found.ensures.read ∙ ap (λ (r : Result (Option Entry) RecordingFault). (r, now)) is)

pub returns-in_default-clause-next : goal.returns-in_default-clause-next
returns-in_default-clause-next g c =
    let w = (goal.at.returns-in_default-clause-next g c).After-map_err in
    let h = filled g w _ _ c.in_ok-length.was c.in_default.is in
    ends_empty w.args.self.now.place w.fill_line.new.self.place (first g w) (items w.fill_line.new.self.window) (left g w) h.0 h.1

pub returns-in-Ok-Some-clause-next : goal.returns-in-Ok-Some-clause-next
returns-in-Ok-Some-clause-next g c =
    let at = goal.at.returns-in-Ok-Some-clause-next g c in
    let w = at.After-map_err in
    let mid = w.fill_line.new.self in
    let h = filled g w _ _ c.in_ok-length.was c.in-Some.is in
    let entry = rw c.in-Ok-Some.is at c.in-Ok-Some.field-0-is in
    let is : c.read-found.result ≡ Ok (Some c.in-Ok-Some.entry) = cc in
    subst (λ (l : List ℕ). IsNext w.args.self.now.place (first g w) (Ok (Some c.in-Ok-Some.entry)) c.read-found.new.self
    (prepend_known l (left g w))) (sym c.consume.ensures)
    (ends_entry w.args.self.now.place mid.place c.read-found.new.self (first g w) (left g w) (items mid.window) c.in-Some.length
    c.in-Ok-Some.entry h.0 h.1 c.read-found.ensures.counted (read g at.After-read-found _ is))

pub lines-preserved : goal.lines-preserved
lines-preserved g c =
    let at = goal.at.lines-preserved g c in
    let w = at.After-map_err in
    let mid = w.fill_line.new.self in
    let h = filled g w _ _ c.in_ok-length.was c.in-Some.is in
    let blank = rw c.in-Ok-None.is at c.in-Ok-None.field-0-is in
    let is : c.read-found.result ≡ Ok None = cc in
    record {
      onward = omega (arith, ap (λ (p : Place). p.number) c.fill_line.ensures.place, c.lines.invariant.onward);
      goes = subst (λ (l : List ℕ). Goes w.args.self.now.place (first g w) c.read-found.new.self (prepend_known l (left g w)))
          (sym c.consume.ensures)
          (passes w.args.self.now.place mid.place c.read-found.new.self (first g w) (left g w) (items mid.window)
          c.in-Some.length h.0 h.1 c.read-found.ensures.counted (read g at.After-read-found _ is));
    }

pub returns-in-Err-clause-next : goal.returns-in-Err-clause-next
returns-in-Err-clause-next g c =
    let at = goal.at.returns-in-Err-clause-next g c in
    let w = at.After-map_err in
    let mid = w.fill_line.new.self in
    let h = filled g w _ _ c.in_ok-length.was c.in-Some.is in
    ends_fault w.args.self.now.place mid.place c.read-found.new.self (first g w) (left g w) (ahead c.consume.new.self (left g w))
    (items mid.window) c.in-Some.length c.read-found.new.self.number c.in-Err.fault h.0 h.1
    (read g at.After-read-found _ c.in-Err.is)

pub returns-clause-next : goal.returns-clause-next
returns-clause-next g c =
    let old = c.args.self.now in
    let now = c.lines.self in
    ends_at_limit old.place now.place (ahead old.window (g.R.Read.remaining old.reader))
    (ahead now.window (g.R.Read.remaining now.reader)) c.lines.invariant.goes (omega arith)
