-- Sessions over the software chip.
use Rattle.std.proofs.Common.{◌≡◌, Bool, List, [], ◌∷◌, sym, subst}
use Rattle.uart_spec.specs.declared.access.Access.{Access as RegisterAccess}
use Rattle.uart_spec.specs.declared.setup.FifoSize.{FifoSize}
use Rattle.uart_16550.specs.Driver.{Fields, settings_of}
use Rattle.uart_call.specs.declared.call.Answer.{Answer}
use Rattle.uart_call.specs.declared.call.Call.{Call}
use Rattle.uart_calls.specs.Lists.{IsListOf}
use Rattle.uart_chip.specs.Machine.{MachineState}
use Rattle.uart_judges_runs.specs.Calls.{IsSteady, KnowsAsTaken}
use Rattle.uart_judges_runs.specs.Runs.{IsSession}
use Rattle.uart_judges_runs.proofs.Recordings.{Goes, goes_none, goes_then}
use Rattle.uart_judges_runs.proofs.Kept.{stays_knows}
use Rattle.uart_run.proofs.CallBlocks.{most_in}
use Rattle.uart_run.proofs.SizeKept.{call_leaves}
use Rattle.uart_judges_runs.proofs.CallLists.{goes_list, list_of, fits_at_once, steady_in_runs}
use Rattle.uart_run.proofs.Steady.{steady_call}
use Rattle.uart_judges_runs.proofs.Taken.{OpenIn, list_path}

-- the driver takes the FIFOs to be as before
pub same_fifo : (c : Call) (f after : Fields) (l : List RegisterAccess) (a : Answer) → IsSteady c → IsListOf c f l a after →
    after.fifo ≡ f.fifo
same_fifo c f after l a i h = (steady_call c (steady_in_runs c i) h.outcome f l after h.does).fifo

-- and for as large as before
same_size : (c : Call) (f after : Fields) (l : List RegisterAccess) (a : Answer) → IsListOf c f l a after → after.size ≡ f.size
same_size c f after l a h = call_leaves c h.outcome f l after h.does

pub goes_session : (calls : List Call) (f : Fields) (m n : MachineState) (l : List RegisterAccess) → OpenIn f.fifo m →
    IsSession calls f m l n →
    Goes f.size (KnowsAsTaken f.fifo) l (KnowsAsTaken f.fifo)
goes_session [] f m n l o h =
    subst (λ (l : List RegisterAccess). Goes f.size (KnowsAsTaken f.fifo) l (KnowsAsTaken f.fifo)) (sym h.0)
    (goes_none f.size (KnowsAsTaken f.fifo) (stays_knows f.size f.fifo))
goes_session (c ∷ calls) f m n l o h =
    let K = KnowsAsTaken f.fifo in
    let s = list_of c f h.after h.front h.answer h.steady h.list in
    let t = list_path f.fifo (most_in (settings_of f)) h.front m h.mid s h.path o in
    let same : h.after.fifo ≡ f.fifo = same_fifo c f h.after h.front h.answer h.steady h.list in
    let rest = goes_session calls h.after h.mid n h.back (subst (λ (b : Bool). OpenIn b h.mid) (sym same) t.after) h.follows in
    let sized : Goes f.size (KnowsAsTaken h.after.fifo) h.back (KnowsAsTaken h.after.fifo) =
    subst (λ (z : FifoSize). Goes z (KnowsAsTaken h.after.fifo) h.back (KnowsAsTaken h.after.fifo))
    (same_size c f h.after h.front h.answer h.list) rest in
    let back : Goes f.size K h.back K = subst (λ (b : Bool). Goes f.size (KnowsAsTaken b) h.back (KnowsAsTaken b)) same sized in
    subst (λ (l : List RegisterAccess). Goes f.size K l K) (sym h.whole) (goes_then f.size K K K h.front h.back
    (goes_list f.size f.fifo (most_in (settings_of f)) h.front (fits_at_once f) s t.taken) back)
