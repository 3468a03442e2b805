-- An `init` that is done sends nothing, so what had room on the wire before it has room after it.
use Rattle.uart_run.proofs.Names.{ℕ, true, List, Ok, refl, Path, Access, Config, Fields, Saving, Next, settings_of, Begins, Ends, Inits}
use Rattle.uart_run.proofs.Names.{WaitsFor, MachineState, MachineStep}
use Rattle.uart_spec.specs.declared.registers.line_status.TheConstants.LSR
use Rattle.uart_run.proofs.{built.Receive.waits_for, built.SettingUp.ends, Pieces.next_stages, SilentLists.does_silently}
use Rattle.uart_run.proofs.{initialising.InitSucceeds.free-begins, initialising.InitSucceeds.free-list, progress.Nearing.RunsWith}
use Rattle.uart_run.proofs.{progress.Nearing.free-path}

pub init_room : (config : Config) (room : ℕ) (f after : Fields) (l : List Access) (m n : MachineState) → RunsWith room m →
    Inits {T = Unit {0}} config (Ok tt) f l after → Path MachineStep m l n → RunsWith room n
init_room config room f after l m n r (d, on, of, does) path =
    let wait = Saving (WaitsFor LSR.TRANSMITTER_EMPTY.0 true) in
    let a = next_stages (Begins config d on) (Next wait (Ends config)) f after l m n does path in
    let begun = free-begins config d on f a.mid a.parts.front m a.parts.between r a.parts.first a.parts.before in
    let b = next_stages wait (Ends config) a.mid after a.parts.back a.parts.between n a.parts.second a.parts.after in
    let waited = free-list (waits_for LSR.TRANSMITTER_EMPTY.0 true) refl (settings_of a.mid) b.parts.front a.parts.between b.parts.between
    begun b.parts.first.0 b.parts.before in
    free-path b.parts.back b.parts.between n waited (does_silently (ends config) refl b.mid b.parts.back after b.parts.second) b.parts.after
