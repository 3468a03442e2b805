-- Lists of accesses that send nothing: of languages, and of what a call does.
use Rattle.uart_run.proofs.Names.{◌≡◌, ℕ, ◌==◌, Bool, true, not, not-true, Language, Settings, Doing, SendsNothing, AllSendNothing}
use Rattle.uart_spec.specs.declared.registers.offsets.TheConstants as offsets
use Rattle.uart_run.proofs.ListsInTurn.{HoldsOfAll, HoldsOfDoing}
use Rattle.uart_run.proofs.built.Words.{Kinds, Built, Does, all_pass, each_such, does_such}

abbrev pub is_no_data : ℕ → Bool
is_no_data register = not (register == offsets.DATA)

-- every list of a language is such that is built without writes of data, and so is each of what is done
pub silent : {kinds : Kinds} {P : Language} → Built kinds P → all_pass is_no_data kinds.writes ≡ true → (s : Settings) →
    HoldsOfAll AllSendNothing s P
silent p all s =
    each_such SendsNothing is_no_data (λ register answer. tt) (λ register value is. not-true (register == offsets.DATA) is) p all s

pub does_silently : {kinds : Kinds} {G : Doing} → Does kinds G → all_pass is_no_data kinds.writes ≡ true → HoldsOfDoing AllSendNothing G
does_silently p all =
    does_such SendsNothing is_no_data (λ register answer. tt) (λ register value is. not-true (register == offsets.DATA) is) p all
