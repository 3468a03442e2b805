-- Pieces of a path: where a list, or what a call does, has two parts, its path leads through a machine between them.
use Rattle.uart_run.proofs.Names.{◌≡◌, List, ◌++◌, Path, Access, Language, Settings, Then, Fields, Doing, Next, MachineState, MachineStep}
use Rattle.uart_run.proofs.Names.{path_as, path_split}

-- a list of the first kind from m to the machine between, and one of the second kind from there to n
pub record Parts (P Q : List Access → Type 0) (m n : MachineState) : Type 0 where
  pub between : MachineState
  pub front : List Access
  pub back : List Access
  pub first : P front
  pub second : Q back
  pub before : Path MachineStep m front between
  pub after : Path MachineStep between back n

parts : (P Q : List Access → Type 0) (front back l : List Access) (m n : MachineState) → l ≡ front ++ back → P front → Q back →
    Path MachineStep m l n → Parts P Q m n
parts P Q front back l m n whole p q path =
    let r = path_split MachineStep m n front back (path_as m n l (front ++ back) whole path) in
    record { between = r.0; front = front; back = back; first = p; second = q; before = r.1; after = r.2 }

-- of a list of two languages
pub then_parts : (P Q : Language) (s : Settings) (l : List Access) (m n : MachineState) → Then P Q s l → Path MachineStep m l n →
    Parts (P s) (Q s) m n
then_parts P Q s l m n t path = parts (P s) (Q s) t.front t.back l m n t.whole t.first t.second path

-- of what a call does, with the driver's fields between
pub record Stages (G H : Doing) (f after : Fields) (m n : MachineState) : Type 0 where
  pub mid : Fields
  pub parts : Parts (λ l. G f l mid) (λ l. H mid l after) m n

pub next_stages : (G H : Doing) (f after : Fields) (l : List Access) (m n : MachineState) → Next G H f l after → Path MachineStep m l n →
    Stages G H f after m n
next_stages G H f after l m n t path = record {
  mid = t.mid;
  parts = parts (λ k. G f k t.mid) (λ k. H t.mid k after) t.front t.back l m n t.whole t.first t.second path;
}
