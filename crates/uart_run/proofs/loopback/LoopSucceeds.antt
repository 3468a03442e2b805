-- Where ticks come before each access, the spin limit is long enough and the wire has room, a loopback test does not stall.
use Rattle.uart_run.proofs.Names.{◌≡◌, ℕ, ◌<◌, Bool, true, false, ◌⊎◌, inl, inr, List, [], ◌∷◌, ◌++◌, length, append_assoc, ◌&&◌, drop, min}
use Rattle.uart_run.proofs.Names.{None, Result, Ok, Err, refl, arith, sym, ◌∙◌, ap, subst, MatchBool, LoopbackError, Path, Access, Read}
use Rattle.uart_run.proofs.Names.{Settings, Only, Then, InOrder, AllMisses, Miss, Awaited, SendMiss, burst_size, Round, IsCut, SendsAll}
use Rattle.uart_run.proofs.Names.{WaitsFor, Fields, Saving, Next, fields, settings_of, test_byte, test_message, DrainsLoopback}
use Rattle.uart_run.proofs.Names.{SendsTestByte, ExchangesByte, Echo, EchoFails, WholeFails, EachFails, HasEchoedAll, ExchangesMessage}
use Rattle.uart_run.proofs.Names.{Exchanges, Enters, Leaves, BeginsTest, Tests, TestsLoopback, inner_of, Answer, LoopbackRefused}
use Rattle.uart_run.proofs.Names.{characters, room, out, MachineState, MachineStep, IsSound, loopback_answer, State, machine_of, CallStep}
use Rattle.uart_run.proofs.Names.{Ready, is_narrow, test_answer, cut_of, IsTimely, HasRoom, IsUnheld, IsPlain, at_least_16, Modes, path_as}
use Rattle.uart_run.proofs.Names.{has_any}
use Rattle.uart_spec.specs.declared.errors.LoopbackError.TheVariants.{Stalled}
use Rattle.uart_spec.specs.declared.registers.offsets.TheConstants as offsets
use Rattle.uart_spec.specs.declared.registers.line_status.TheConstants.LSR
use Rattle.uart_call.specs.declared.call.Call.TheVariants as call
use Rattle.uart_run.proofs.CallBlocks.{Makes, makes_then, makes_reads, awaited_blocks, round_blocks, sends_all_blocks, try_sends_blocks}
use Rattle.uart_run.proofs.{CallKeeps.one_fits, CallKeeps.one_sent, Pieces.then_parts, Pieces.next_stages, progress.Nearing.RunsFree}
use Rattle.uart_run.proofs.{progress.Nearing.free_runs, progress.Nearing.free-path, progress.WaitEnds.no_stall-empty}
use Rattle.uart_run.proofs.{NeverSwitched.unwritten, NeverSwitched.does_never, SizeKept.left_ever, SizeKept.left_plain, SizeKept.left_fixed}
use Rattle.uart_run.proofs.{built.Words.leaves_limit, progress.Succeeds.few_left, Latches.Kept, Latches.kept_list}
use Rattle.uart_run.proofs.loopback.LoopPhases.{IsEntered, IsReadyToTest, drained, each_exchanged, byte_exchanged}
use Rattle.uart_run.proofs.loopback.LoopWaits.{Lives, lives-path, never_dry, never_full, never_flooded}
use Rattle.uart_run.proofs.loopback.LoopTests.{tested, IsBegun, begun, looped_modes, in_loopback}
use Rattle.uart_run.proofs.built.Loopback.{enters_at, begins_test, drains_loopback, exchanges_byte, echoes}
use Rattle.uart_spec.specs.declared.registers.modem_control.TheConstants.MCR

-- ---- the byte

no_stall-byte : (x : Modes) (gone : List ℕ) (s : Settings) (l : List Access) (m n : MachineState) → Lives s.limit m →
    IsReadyToTest x gone s m → Then SendsTestByte (AllMisses Miss) s l → Path MachineStep m l n → ⊥
no_stall-byte x gone s l m n v r t path =
    never_dry x gone s SendsTestByte l m n (test_byte ∷ []) [] v r (one_fits s.fifo) (omega arith)
    (λ k u. try_sends_blocks {T = Unit {0}} s test_byte (Ok tt) k u) t path

-- ---- the message, whole

-- with FIFO there is one piece, so no wait comes after one
first_piece : (s : Settings) (pieces : List (List ℕ)) (rest : List ℕ) → s.fifo ≡ true → 0 < length rest → IsCut s test_message pieces rest →
    pieces ≡ []
first_piece s [] rest fifo some cut = refl
first_piece s (piece ∷ pieces) rest fifo some cut = absurd (last pieces (rw size at cut.2))
  where
    size : burst_size s test_message ≡ 16
    size =
        let least = at_least_16 s.size in
        let whole : min 16 (characters s.size) ≡ 16 = omega (arith, least) in
        rw fifo whole

    last : (pieces : List (List ℕ)) → IsCut s (drop 16 test_message) pieces rest → ⊥
    last [] cut = let none : length rest ≡ 0 = ap length cut in omega (arith, none, some)
    last (piece ∷ pieces) cut = omega (arith, cut.0)

no_pieces : (s : Settings) (pieces : List (List ℕ)) (l : List Access) → pieces ≡ [] → InOrder Round pieces s l → l ≡ []
no_pieces s [] l e t = t.is
no_pieces s (piece ∷ pieces) l e t = absurd (cc)

no_stall-whole : (x : Modes) (gone : List ℕ) (s : Settings) (l : List Access) (m n : MachineState) → s.fifo ≡ true → Lives s.limit m →
    IsReadyToTest x gone s m → WholeFails test_message s l → Path MachineStep m l n → ⊥
no_stall-whole x gone s l m n fifo v r (inl (e, (pieces, rest, cut, some, count, made))) path =
    let none = first_piece s pieces rest fifo some cut in
    let p = then_parts (InOrder Round pieces) (AllMisses SendMiss) s l m n made path in
    let same : p.between ≡ m = path_as m p.between p.front [] (no_pieces s pieces p.front none p.first) p.before in
    never_full x gone s p.back m n v r p.second (rw same at p.after)
no_stall-whole x gone s l m n fifo v r (inr (e, got, t)) path =
    let u = t.second.2 in
    let both = Then (SendsAll test_message) (InOrder Awaited got) in
    let regrouped : Then both (AllMisses Miss) s l = record {
      front = t.front ++ u.front;
      back = u.back;
      whole = t.whole ∙ (ap (λ zs. t.front ++ zs) u.whole ∙ sym (append_assoc t.front u.front u.back));
      first = record { front = t.front; back = u.front; whole = refl; first = t.first; second = u.first };
      second = u.second;
    } in
    let makes : Makes s both (test_message ++ []) got = λ k w.
    makes_then s (SendsAll test_message) (InOrder Awaited got) test_message [] [] got (sends_all_blocks s test_message)
    (makes_reads s Awaited (awaited_blocks s) got) k w in
    never_dry x gone s both l m n (test_message ++ []) got v r (rw fifo (omega arith)) t.second.0 makes regrouped path

-- ---- the message, byte by byte

no_stall-echo : (x : Modes) (gone : List ℕ) (s : Settings) (byte : ℕ) (l : List Access) (m n : MachineState) → Lives s.limit m →
    IsReadyToTest x gone s m → EchoFails byte s l → Path MachineStep m l n → ⊥
no_stall-echo x gone s byte l m n v r (inl t) path = never_full x gone s l m n v r t path
no_stall-echo x gone s byte l m n v r (inr t) path =
    never_dry x gone s (Round (byte ∷ [])) l m n (byte ∷ []) [] v r (one_fits s.fifo) (omega arith)
    (round_blocks s (byte ∷ []) (one_sent s)) t path

no_stall-each : (x : Modes) (gone : List ℕ) (s : Settings) (l : List Access) (m n : MachineState) → Lives s.limit m →
    IsReadyToTest x gone s m → EachFails test_message s l → Path MachineStep m l n → ⊥
no_stall-each x gone s l m n v r (pairs, byte, rest, sent, t) path =
    let p = then_parts (InOrder Echo pairs) (EchoFails byte) s l m n t path in
    let a = each_exchanged x gone s pairs p.front m p.between r p.first p.before in
    let leaves = left_plain m (echoes pairs) refl s p.front p.first in
    no_stall-echo x gone s byte p.back p.between n (lives-path s.limit p.front m p.between v leaves p.before) a.ready p.second p.after

no_stall-message : (x : Modes) (gone : List ℕ) (s : Settings) (l : List Access) (m n : MachineState) → Lives s.limit m →
    IsReadyToTest x gone s m → HasEchoedAll test_message None s l → Path MachineStep m l n → ⊥
no_stall-message x gone s l m n v r t path = go s.fifo refl t
  where
    go : (b : Bool) → s.fifo ≡ b → MatchBool b (WholeFails test_message s l) (EachFails test_message s l) → ⊥
    go true e t = no_stall-whole x gone s l m n e v r t path
    go false e t = no_stall-each x gone s l m n v r t path

-- ---- all of the exchange

no_stall-exchange : (x : Modes) (gone : List ℕ) (s : Settings) (l : List Access) (m n : MachineState) → Lives s.limit m →
    IsEntered x gone s m → Exchanges {T = Unit {0}} (Err Stalled) s l → Path MachineStep m l n → ⊥
no_stall-exchange x gone s l m n v e (inl t) path = never_flooded x gone s l m n v e t.1 path
no_stall-exchange x gone s l m n v e (inr (inl t)) path =
    let p = then_parts (DrainsLoopback true) (ExchangesByte {T = Unit {0}} (Err Stalled)) s l m n t path in
    let r = drained x gone s p.front m p.between e p.first p.before in
    let leaves = left_plain m (drains_loopback true) refl s p.front p.first in
    no_stall-byte x gone s p.back p.between n (lives-path s.limit p.front m p.between v leaves p.before) r p.second p.after
no_stall-exchange x gone s l m n v e (inr (inr t)) path =
    let p = then_parts (DrainsLoopback true) (Then (ExchangesByte {T = Unit {0}} (Ok tt)) (ExchangesMessage {T = Unit {0}} (Err Stalled)))
    s l m n t path in
    let r = drained x gone s p.front m p.between e p.first p.before in
    let q = then_parts (ExchangesByte {T = Unit {0}} (Ok tt)) (ExchangesMessage {T = Unit {0}} (Err Stalled)) s p.back
    p.between n p.second p.after in
    let a = byte_exchanged x gone s test_byte q.front p.between q.between r q.first q.before in
    let u = lives-path s.limit p.front m p.between v (left_plain m (drains_loopback true) refl s p.front p.first)
    p.before in
    let leaves = left_plain p.between (exchanges_byte {T = Unit {0}} (Ok tt)) refl s q.front q.first in
    let w = lives-path s.limit q.front p.between q.between u leaves q.before in
    no_stall-message x gone s q.back q.between n w a.ready q.second q.after

-- ---- the whole test

no_stall-test : (cut : ℕ → ℕ) (gone : List ℕ) (mcr ier : ℕ) (f after : Fields) (l : List Access) (m n : MachineState) → Lives f.limit m →
    IsBegun cut gone m → Tests {T = Unit {0}} mcr ier (Err Stalled) f l after → Path MachineStep m l n → ⊥
no_stall-test cut gone mcr ier f after l m n v b (before, fifo, t) path =
    let a = next_stages (Enters before fifo) (Next (Saving (Exchanges {T = Unit {0}} (Err Stalled))) (Leaves mcr ier before f.lsr))
    f after l m n t path in
    let e = in_loopback cut gone f.config.fifo_trigger_level before fifo f a.mid a.parts.front m a.parts.between b a.parts.first
    a.parts.before in
    let c = next_stages (Saving (Exchanges {T = Unit {0}} (Err Stalled))) (Leaves mcr ier before f.lsr) a.mid after a.parts.back
    a.parts.between n a.parts.second a.parts.after in
    let entered = does_never offsets.LCR (enters_at f.config.fifo_trigger_level before fifo) refl f a.parts.front a.mid a.parts.first in
    let w = lives-path f.limit a.parts.front m a.parts.between v (left_fixed m a.parts.front entered (inr b.dlab)) a.parts.before in
    let same : f.limit ≡ a.mid.limit =
    sym (leaves_limit (enters_at f.config.fifo_trigger_level before fifo) f a.parts.front a.mid a.parts.first) in
    no_stall-exchange (looped_modes m.chip.latches.lcr fifo cut) gone (settings_of a.mid) c.parts.front a.parts.between c.parts.between
    (subst (λ limit. Lives limit a.parts.between) same w) e c.parts.first.0 c.parts.before

pub no_stall-begin : (s : State) (n : MachineState) (mcr ier : ℕ) (l : List Access) → IsSound (machine_of s) → IsTimely s →
    IsUnheld (machine_of s) → HasRoom 0 (machine_of s) → BeginsTest mcr ier false (settings_of (fields (inner_of s))) l →
    Path MachineStep (machine_of s) l n → ⊥
no_stall-begin s n mcr ier l w timely unheld room t path =
    let v = settings_of (fields (inner_of s)) in
    let p = then_parts (Only (Read offsets.MCR mcr ∷ Read offsets.IER ier ∷ [])) (WaitsFor LSR.TRANSMITTER_EMPTY.0 false) v l
    (machine_of s) n t path in
    let r : RunsFree (machine_of s) = record { sound = w; ticked = timely.ticked; room = room } in
    let a = free-path p.front (machine_of s) p.between r (rw p.first.is (tt, (tt, tt))) p.before in
    let only = Read offsets.MCR mcr ∷ Read offsets.IER ier ∷ [] in
    let still : IsUnheld p.between = ap (λ (k : Kept). k.auto_flow && has_any k.latches.mcr MCR.AUTO_FLOW.0)
    (kept_list p.front only (machine_of s) p.between p.first.is p.before) ∙ unheld in
    no_stall-empty v v.limit p.back p.between n (free_runs p.between still a)
    (few_left s p.front p.between w timely
    (left_ever (machine_of s) p.front (unwritten p.front (rw p.first.is (tt, (tt, tt))))) p.before) p.second p.after

pub test_succeeds : (s t : State) (a : Answer) → IsSound (machine_of s) → Ready s → IsTimely s → IsUnheld (machine_of s) →
    HasRoom 0 (machine_of s) → CallStep s call.TestLoopback a t → a ≡ test_answer (is_narrow (machine_of s).chip)
test_succeeds s t a w ready timely unheld room h = go (tested s t a w ready h).answers
  where
    f : Fields
    f = fields (inner_of s)

    never : (result : Result (Unit {0}) LoopbackError) → result ≡ Err Stalled → TestsLoopback result f h.did.list (fields (inner_of t)) → ⊥
    never result e does =
        begins (subst (λ (r : Result (Unit {0}) LoopbackError). TestsLoopback r f h.did.list (fields (inner_of t))) e does)
      where
        begins : TestsLoopback {T = Unit {0}} (Err Stalled) f h.did.list (fields (inner_of t)) → ⊥
        begins (mcr, ier, inl k) = no_stall-begin s (machine_of t) mcr ier h.did.list w timely unheld room k.1.0 h.did.path
        begins (mcr, ier, inr k) =
            let c = next_stages (Saving (BeginsTest mcr ier true)) (Tests {T = Unit {0}} mcr ier (Err Stalled)) f (fields (inner_of t))
            h.did.list (machine_of s) (machine_of t) k h.did.path in
            let plain : IsPlain s = record { dlab = ready.dlab; loopback = ready.loopback } in
            let b = begun s c.parts.between mcr ier c.parts.front w plain c.parts.first.0 c.parts.before in
            let v : Lives f.limit (machine_of s) = record { sound = w; ticked = timely.ticked; enough = timely.limit } in
            let leaves = left_plain (machine_of s) (begins_test mcr ier true) refl (settings_of f) c.parts.front c.parts.first.0 in
            let u = lives-path f.limit c.parts.front (machine_of s) c.parts.between v leaves c.parts.before in
            let same : f.limit ≡ c.mid.limit = sym (ap (λ (g : Fields). g.limit) c.parts.first.1) in
            no_stall-test (cut_of (machine_of s).chip) (out (machine_of s).chip.transmitter) mcr ier c.mid (fields (inner_of t))
            c.parts.back c.parts.between (machine_of t) (subst (λ limit. Lives limit c.parts.between) same u) b c.parts.second c.parts.after

    refused : (result : Result (Unit {0}) LoopbackError) → loopback_answer result ≡ LoopbackRefused Stalled → result ≡ Err Stalled
    refused (Ok x) e = absurd (cc)
    refused (Err fault) e = cc

    go : (a ≡ test_answer (is_narrow (machine_of s).chip)) ⊎ (a ≡ LoopbackRefused Stalled) → a ≡ test_answer (is_narrow (machine_of s).chip)
    go (inl e) = e
    go (inr e) = absurd (never h.outcome (refused h.outcome (sym h.answered ∙ e)) h.did.does)
