-- What a tape shows of the calls over it.
use Rattle.std.proofs.Common.{◌≡◌, true, List, [], ◌∷◌, ◌++◌, sym, ◌∙◌, ap, append_assoc, append-nil, nat_lt, length}
use Rattle.std.proofs.lemmas.Bool.{and_parts}
use Rattle.uart_spec.specs.Access.{Path}
use Rattle.uart_spec.specs.declared.access.Access.{Access}
use Rattle.uart_16550.specs.Grammar.{Language}
use Rattle.uart_16550.specs.Driver.{Made, Did, Doing, Saving}
use Rattle.uart_calls.specs.declared.replay.TheConstants.{REPLAY_ROOM}
use Rattle.uart_calls.specs.Replay.{Replay, ReplayStep, FedBy, ReplaysShow, Replayed}
use Rattle.uart_16550.specs.declared.driver.Uart16550.{Uart16550}
use Rattle.uart_16550.proofs.Doings.{did_made}

pub still_whole : (a b : Replay) (l : List Access) → Path ReplayStep a l b → b.whole ≡ true → a.whole ≡ true
still_whole a b [] p h = sym (ap (λ (t : Replay). t.whole) p) ∙ h
still_whole a b (access ∷ accesses) p h =
    (and_parts a.whole (nat_lt (length a.made) REPLAY_ROOM) (sym p.1.whole ∙ still_whole p.0 b accesses p.2 h)).0

-- its reads returned the answers of the first replay, in turn
pub fed_path : (a b : Replay) (l : List Access) → Path ReplayStep a l b → FedBy a.answers l b.answers
fed_path a b [] p = ap (λ (t : Replay). t.answers) p
fed_path a b (access ∷ accesses) p = (p.0.answers, p.1.answers, fed_path p.0 b accesses p.2)

pub replays_show : ReplaysShow
replays_show a b [] p h = record { made = ap (λ (t : Replay). t.made) p ∙ sym (append-nil a.made); fed = fed_path a b [] p }
replays_show a b (access ∷ accesses) p h =
    let rest = replays_show p.0 b accesses p.2 h in
    record {
      made =
          rest.made ∙ ap (λ (made : List Access). made ++ accesses) (p.1.made (still_whole p.0 b accesses p.2 h))
          ∙ append_assoc a.made (access ∷ []) accesses;
      fed = fed_path a b (access ∷ accesses) p;
    }

-- calls over a replay
pub did_replay : {G : Doing} {old new : Uart16550 Replay} → Did ReplayStep G old new → Replayed G old new
did_replay {old} {new} p h = (p.list, p.does, replays_show old.backend new.backend p.list p.path h)

pub made_replay : {L : Language} {old new : Uart16550 Replay} → Made ReplayStep L old new → Replayed (Saving L) old new
made_replay p = did_replay (did_made p)
