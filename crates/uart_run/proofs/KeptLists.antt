-- Lists that change nothing of what the registers keep while DLAB is off: they read, and of writes have only those of the data register.
use Rattle.uart_run.proofs.Names.{◌≡◌, ℕ, ◌==◌, Bool, true, false, List, [], ◌∷◌, refl, ◌∙◌, ap, if◌then◌else◌, eqb-true, AllByRecursion}
use Rattle.uart_run.proofs.Names.{Path, Access, Read, Write, Language, Settings, is_dlab_set, MachineState, MachineStep}
use Rattle.uart_spec.specs.declared.registers.offsets.TheConstants as offsets
use Rattle.uart_run.proofs.{ListsInTurn.HoldsOfAll, Latches.Kept, Latches.kept_in, Latches.keep, Latches.kept_after, Latches.kept_path}
use Rattle.uart_run.proofs.{built.Words.Kinds, built.Words.Built, built.Words.all_pass, built.Words.each_such}

-- a read, or a write of the data register
abbrev pub IsPlainAccess : Access → Type 0
IsPlainAccess (Read offset answer) = Unit {0}
IsPlainAccess (Write offset value) = offset ≡ offsets.DATA

-- each of these accesses is one
abbrev pub KeepsAll : List Access → Type 0
KeepsAll l = AllByRecursion IsPlainAccess l

-- so they change nothing of it
kept_by : (l : List Access) → KeepsAll l → (k : Kept) → is_dlab_set k.latches ≡ false → kept_after l k ≡ k
kept_by [] plain k d = refl
kept_by (Read offset answer ∷ l) plain k d = kept_by l plain.1 k d
kept_by (Write offset value ∷ l) plain k d = ap (kept_after l) same ∙ kept_by l plain.1 k d
  where
    same : keep (Write offset value) k ≡ k
    same = rw plain.0 (ap (λ (b : Bool). if b then record k { latches = record k.latches { dll = value } } else k) d)

-- every list of a language is of such accesses that is built of reads and of writes of data
abbrev pub is_data : ℕ → Bool
is_data register = register == offsets.DATA

pub keeps : {kinds : Kinds} {P : Language} → Built kinds P → all_pass is_data kinds.writes ≡ true → (s : Settings) → HoldsOfAll KeepsAll s P
keeps p all s =
    each_such IsPlainAccess is_data (λ register answer. tt) (λ register value is. eqb-true register offsets.DATA is) p all s

-- ---- the machine

pub kept_still : {kinds : Kinds} {P : Language} → Built kinds P → all_pass is_data kinds.writes ≡ true → (s : Settings) (l : List Access)
    (m n : MachineState) → is_dlab_set m.chip.latches ≡ false → P s l → Path MachineStep m l n → kept_in n.chip ≡ kept_in m.chip
kept_still p all s l m n d t path = kept_path l m n path ∙ kept_by l (keeps p all s l t) (kept_in m.chip) d
