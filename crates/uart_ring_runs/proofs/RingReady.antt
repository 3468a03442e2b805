-- After an `init` a session of ring calls may begin.
use Rattle.uart_ring_runs.proofs.Names.{◌≡◌, false, Ok, refl, sym, ◌∙◌, subst, Config, Did, backend_of, Inits, Uart16550, Done}
use Rattle.uart_ring_runs.proofs.Names.{MachineState, MachineStep, IsSound, driver_of, RingState, under, IsTimely, BurstsFit, IsInitialised}
use Rattle.uart_ring_runs.proofs.Names.{under_terminal, State, CallStep, IsUnhindered, fits_kept, initialises}
use Rattle.uart_call.specs.declared.call.Call.TheVariants as call
use Rattle.uart_run.proofs.progress.Timely.{timely_kept, flow_kept}

pub init_leaves : (before after : Uart16550 MachineState) (config : Config) (ring : RingState) → IsSound (backend_of before) →
    Did MachineStep (Inits {T = Unit {0}} config (Ok tt)) before after → driver_of ring ≡ after → IsInitialised config (under ring)
init_leaves before after config ring sound did same =
    let s : State = record { inner = before } in
    let t : State = record { inner = after } in
    let step : CallStep s (call.Init config) Done t = record { outcome = Ok tt; answered = refl; did = did } in
    let R : Uart16550 MachineState → Type 0 = λ d. IsInitialised config (record { inner = d }) in
    subst R (sym same) ((initialises s t config Done sound step).leaves refl)

-- an `init` does not change for how large the driver takes the FIFOs
pub init_fits : (before after : Uart16550 MachineState) (config : Config) (ring : RingState) →
    Did MachineStep (Inits {T = Unit {0}} config (Ok tt)) before after → driver_of ring ≡ after → BurstsFit (under_terminal before) →
    BurstsFit (under ring)
init_fits before after config ring did same fits =
    let s : State = record { inner = before } in
    let t : State = record { inner = after } in
    let step : CallStep s (call.Init config) Done t = record { outcome = Ok tt; answered = refl; did = did } in
    let R : Uart16550 MachineState → Type 0 = λ d. BurstsFit (record { inner = d }) in
    subst R (sym same) (fits_kept s t (call.Init config) Done step tt fits)

-- and where ticks come before it and the limit is long enough, they do after it
pub init_unhinders : (before after : Uart16550 MachineState) (config : Config) (ring : RingState) → IsSound (backend_of before) →
    BurstsFit (under_terminal before) → IsTimely (under_terminal before) → (backend_of before).chip.auto_flow ≡ false →
    Did MachineStep (Inits {T = Unit {0}} config (Ok tt)) before after → driver_of ring ≡ after → IsUnhindered (under ring)
init_unhinders before after config ring sound fits timely lacks did same =
    let s : State = record { inner = before } in
    let t : State = record { inner = after } in
    let step : CallStep s (call.Init config) Done t = record { outcome = Ok tt; answered = refl; did = did } in
    let R : Uart16550 MachineState → Type 0 = λ d. IsUnhindered (record { inner = d }) in
    subst R (sym same) (record {
      ready = ((initialises s t config Done sound step).leaves refl).ready (fits_kept s t (call.Init config) Done step tt fits);
      timely = timely_kept s t (call.Init config) Done step tt timely;
      lacks_flow = flow_kept s t (call.Init config) Done step ∙ lacks;
    })
