-- An `init` and an `init_with` that are done store the configuration in the driver.
use Rattle.uart_run.proofs.Names.{◌≡◌, List, Ok, ◌∙◌, ap, Access, Config, Setup, Fields, Inits, InitsWith}
use Rattle.uart_run.proofs.{built.SettingUp.begun, built.SettingUp.ends, built.SettingUp.sets_up, built.Words.leaves}

-- what is set is stored, and what comes behind leaves it
pub init_stores : (config : Config) (f after : Fields) (l : List Access) → Inits config (Ok (tt {0})) f l after → after.config ≡ config
init_stores config f after l (d, on, of, does) =
    let at : Fields → Config = λ g. g.config in
    let begins = does.first in
    let waits = does.second in
    (leaves (ends config) waits.mid waits.back after waits.second).1 ∙ (ap at waits.first.1
    ∙ ((leaves (begun config d on) begins.mid begins.back does.mid begins.second).1 ∙ ap at begins.first.1))

pub init_with_stores : (setup : Setup) (config : Config) (f after : Fields) (l : List Access) →
    InitsWith setup config (Ok (tt {0})) f l after → after.config ≡ config
init_with_stores setup config f after l (d, on, of, does) =
    let at : Fields → Config = λ g. g.config in
    let looks = does.second in
    let sets = looks.second in
    let waits = sets.second in
    (leaves (ends config) waits.mid waits.back after waits.second).1 ∙ (ap at waits.first.1
    ∙ ((leaves (sets_up setup config d on) looks.mid sets.front sets.mid sets.first).1 ∙ (ap at looks.first.1 ∙ ap at does.first.1)))
