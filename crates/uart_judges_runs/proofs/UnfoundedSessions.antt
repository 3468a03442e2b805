-- Sessions over the software chip: no warning is without a cause.
use Rattle.std.proofs.Common.{◌≡◌, ℕ, Bool, false, List, [], ◌∷◌, refl, sym, ◌∙◌, subst}
use Rattle.std.specs.List.{AllByRecursion}
use Rattle.uart_spec.specs.declared.access.Access.{Access as RegisterAccess}
use Rattle.uart_spec.specs.FifoSize.{characters}
use Rattle.uart_16550.specs.Driver.{Fields, settings_of}
use Rattle.uart_call.specs.declared.call.Answer.{Answer}
use Rattle.uart_call.specs.declared.call.Call.{Call}
use Rattle.uart_call.specs.declared.call.Call.TheVariants as call
use Rattle.uart_calls.specs.Lists.{IsListOf}
use Rattle.uart_chip.specs.Machine.{MachineState}
use Rattle.uart_judges.specs.History.{known}
use Rattle.uart_judges.specs.declared.recording.entry.Entry.{Entry}
use Rattle.uart_judges_runs.specs.Calls.{IsSteady, KnowsAsTaken}
use Rattle.uart_judges_runs.specs.Causes.{AsksFor, Causes, GivesOnly, IsSetUpFor, KnowsFor, is_unfounded}
use Rattle.uart_judges_runs.specs.Recorded.{HasNone, accesses_in, told}
use Rattle.uart_judges_runs.specs.Runs.{IsSession}
use Rattle.uart_run.specs.Progress.{KeepsChecks}
use Rattle.uart_run.proofs.{CallBlocks.most_in, SizeKept.checks_left}
use Rattle.uart_judges_runs.proofs.CallLists.{list_of}
use Rattle.uart_judges_runs.proofs.GoodCalls.{good_list}
use Rattle.uart_judges_runs.proofs.GoodLists.{IsClear}
use Rattle.uart_judges_runs.proofs.Sessions.{goes_session, same_fifo}
use Rattle.uart_judges_runs.proofs.Settled.{Stage}
use Rattle.uart_judges_runs.proofs.ShownLatches.{HoldsIn, IsLatchedFor, path_walks}
use Rattle.uart_judges_runs.proofs.Taken.{OpenIn, list_path}
use Rattle.uart_judges_runs.proofs.Unfounded.{first, settled_at_first, unfounded}
use Rattle.uart_judges_runs.proofs.Walks.{Walks, founded_walk}

module _ (c : Causes) (line : ℕ) where
  -- the driver checks CTS as before
  abbrev Checks : Fields → Bool
  Checks g = g.config.check_cts_before_sending

  -- a steady call is no `init`
  steady_keeps : (x : Call) → IsSteady x → KeepsChecks x
  steady_keeps (call.Init config) i = absurd i
  steady_keeps (call.InitWith config setup) i = absurd i
  steady_keeps other i = tt

  same_checks : (x : Call) (f after : Fields) (l : List RegisterAccess) (a : Answer) → IsSteady x → IsListOf x f l a after →
      Checks after ≡ Checks f
  same_checks x f after l a i h = checks_left x (steady_keeps x i) h.outcome f l after h.does

  set_after : (f after : Fields) → IsSetUpFor c line f → after.fifo ≡ f.fifo → Checks after ≡ Checks f → IsSetUpFor c line after
  set_after f after set same checks = record {
    dlab = set.dlab;
    not_in_break = set.not_in_break;
    checks = λ e. checks ∙ set.checks e;
    fifos = λ e. same ∙ set.fifos e;
  }

  -- ---- the accesses of a session are good

  walks_session : (calls : List Call) (f : Fields) (m n : MachineState) (l : List RegisterAccess) → IsSetUpFor c line f → OpenIn f.fifo m →
      HoldsIn c line false m → AllByRecursion (AsksFor c line) calls → IsSession calls f m l n → (held looked : Bool) →
      IsClear c line f.fifo f.config.check_cts_before_sending held → Walks c line
      (record { opened = false; held = held; looked = looked }) l
  walks_session [] f m n l set o h asks t held looked clear =
      subst (λ (l : List RegisterAccess). Walks c line (record { opened = false; held = held; looked = looked }) l) (sym t.0) tt
  walks_session (x ∷ calls) f m n l set o h asks t held looked clear =
      let s : Stage = record { opened = false; held = held; looked = looked } in
      let End : Stage → Type 0 = λ g. (g.opened ≡ false) × IsClear c line f.fifo f.config.check_cts_before_sending g.held in
      let takes = list_path f.fifo (most_in (settings_of f)) t.front m t.mid (list_of x f t.after t.front t.answer t.steady t.list)
      t.path o in
      let causal = good_list c line f set x t.after t.front t.answer t.steady asks.0 t.list in
      let same : t.after.fifo ≡ f.fifo = same_fifo x f t.after t.front t.answer t.steady t.list in
      let kept = same_checks x f t.after t.front t.answer t.steady t.list in
      let set_then = set_after f t.after set same kept in
      let open_then : OpenIn t.after.fifo t.mid = subst (λ (b : Bool). OpenIn b t.mid) (sym same) takes.after in
      let rest : (g : Stage) → End g → HoldsIn c line g.opened t.mid → Walks c line g t.back =
      λ g e k. subst (λ (b : Bool). Walks c line (record { opened = b; held = g.held; looked = g.looked }) t.back) (sym e.0)
      (walks_session calls t.after t.mid n t.back set_then open_then (subst (λ (b : Bool). HoldsIn c line b t.mid) e.0 k) asks.1 t.follows
      g.held g.looked (λ n off. e.1 n (sym kept ∙ off))) in
      subst (λ (l : List RegisterAccess). Walks c line s l) (sym t.whole)
      (path_walks c line set.dlab f.fifo t.front t.back s m t.mid End (causal held looked clear) takes.taken t.path h rest)

-- ---- and its recording

pub unfounded_session : (c : Causes) (calls : List Call) (fields : Fields) (accesses : List RegisterAccess) (old new : MachineState)
    (past entries : List Entry) → GivesOnly c calls fields old →
    IsSession calls fields old accesses new →
    KnowsAsTaken fields.fifo (known past) → KnowsFor c old.chip.latches.lcr (known past) → accesses_in entries ≡ accesses →
    HasNone (told (characters fields.size) (is_unfounded c)) past entries
unfounded_session c calls fields accesses old new past entries gives session knows knows_for is =
    let line = old.chip.latches.lcr in
    let s : Stage = first fields in
    let begins = gives.begins in
    let set = gives.set_up in
    let o : OpenIn fields.fifo old = record { dlab = begins.dlab; loopback = begins.loopback; fifos = begins.fifo } in
    let latched : IsLatchedFor c old.chip.latches = record { interrupts = gives.interrupts; out2 = gives.out2 } in
    let twelve = (goes_session calls fields old new accesses o session past entries is knows).0 in
    let walks : Walks c line s accesses =
    walks_session c line calls fields old new accesses set o (record { lcr = refl; latched = latched }) gives.asks session
    fields.config.check_cts_before_sending false (λ n e. e) in
    let nine = founded_walk c line set.dlab set.not_in_break s past entries
    (subst (λ (l : List RegisterAccess). Walks c line s l) (sym is) walks)
    (settled_at_first c line fields (known past) set knows knows_for) in
    unfounded fields.size c past entries twelve nine
