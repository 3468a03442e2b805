-- Where ticks come before each access, the spin limit is long enough and the wire has room, calls do not stall.
use Rattle.uart_run.proofs.Names.{◌≡◌, ◌*◌, ◌&&◌, ℕ, ◌+◌, ◌≤◌, ◌<◌, Bool, List, [], ◌++◌, length, map, length-append, take, Result, Ok, Err}
use Rattle.uart_run.proofs.Names.{inr, refl, arith, sym, ◌∙◌, ap, length-map, length-take, concat, StalledError, Path, Access, Language}
use Rattle.uart_run.proofs.Names.{Settings, Then, InOrder, AllMisses, fields, settings_of, SendMiss, Round, SendsExact, expansion}
use Rattle.uart_run.proofs.Names.{SendsEach, SendsText, Writes, Flushes, inner_of, Answer, Done, Count, MachineState, MachineStep, IsSound}
use Rattle.uart_run.proofs.Names.{exact_answer, count_answer, State, machine_of, Ready, IsTimely, IsUnchecked, IsUnheld, left, most_held}
use Rattle.uart_run.proofs.Names.{HasRoom, has_any, Modes, IsIn, sound_path, same_pace, flow-path, PassedBlocks, path_split, path_as}
use Rattle.uart_chip.specs.Conserved.{out}
use Rattle.uart_spec.specs.declared.registers.modem_control.TheConstants.MCR
use Rattle.uart_run.proofs.{progress.Left.exceeds, progress.Left.left-most, progress.Nearing.Runs, progress.Nearing.ticked-path}
use Rattle.uart_run.proofs.{SizeKept.LeavesSwitch, SizeKept.size_left, SizeKept.left_blocks, CallKeeps.sends_each_blocks}
use Rattle.uart_run.proofs.{CallLaws.InSession, CallLaws.session_room, SessionCalls.modes_of, SessionCalls.modes_mcr}
use Rattle.uart_run.proofs.{SessionCalls.in_session, progress.WaitEnds.no_stall-empty, progress.WaitEnds.no_stall-room}
use Rattle.uart_run.proofs.CallBlocks.{Makes, most_in, passed_in_blocks, pieces_blocks, cut_whole}

-- the call's own settings
abbrev pub settings_at : State → Settings
settings_at s = settings_of (fields (inner_of s))

-- outside of MCR nothing turns automatic flow control on
unheld_in : (s : State) (n : MachineState) (x : Modes) → IsUnheld (machine_of s) → (made : List Access) →
    Path MachineStep (machine_of s) made n → IsIn x n.chip → x.mcr ≡ (machine_of s).chip.latches.mcr → IsUnheld n
unheld_in s n x unheld made path modes same =
    ap (λ (b : Bool). b && has_any n.chip.latches.mcr MCR.AUTO_FLOW.0) (flow-path made (machine_of s) n path)
    ∙ (ap (λ (v : ℕ). (machine_of s).chip.auto_flow && has_any v MCR.AUTO_FLOW.0) (modes.mcr ∙ same) ∙ unheld)

-- room for more is room
less_room : (n k : ℕ) (m : MachineState) → n ≤ k → HasRoom k m → HasRoom n m
less_room n k m h room = omega (arith, h, room)

pub runs : (s : State) → IsSound (machine_of s) → IsTimely s → IsUnheld (machine_of s) → HasRoom 0 (machine_of s) → Runs (machine_of s)
runs s w timely unheld room = record { sound = w; ticked = timely.ticked; flows = λ e. omega (arith, room); off = unheld }

-- the limit exceeds what is left, there and after some accesses
pub few_left : (s : State) (made : List Access) (m : MachineState) → IsSound (machine_of s) → IsTimely s →
    LeavesSwitch (machine_of s) made → Path MachineStep (machine_of s) made m → left m.chip.transmitter < (settings_at s).limit
few_left s made m w timely leaves p =
    let most = left-most m.chip (sound_path made (machine_of s) m w p).chip in
    let same = same_pace made (machine_of s) m p in
    let enough : most_held m.chip.transmitter * (m.chip.transmitter.char_ticks + 1) ≤ (settings_at s).limit =
    rw (size_left made (machine_of s) m leaves p, same.char_ticks) timely.limit in
    let less = exceeds m.chip.transmitter (settings_at s).limit most enough in omega (arith, less)

-- ---- bytes are sent, and then a wait for room is in vain: there was none
no_stall-after : (s : State) (t : MachineState) (L : Language) (l : List Access) (written : List ℕ) → IsSound (machine_of s) → Ready s →
    IsTimely s → IsUnheld (machine_of s) → IsUnchecked s → HasRoom (length written) (machine_of s) → Makes (settings_at s) L written [] →
    Then L (AllMisses SendMiss) (settings_at s) l → Path MachineStep (machine_of s) l t → ⊥
no_stall-after s t L l written w ready timely unheld off room makes fits path =
    let m = machine_of s in
    let q = path_split MachineStep m t fits.front fits.back (path_as m t l (fits.front ++ fits.back) fits.whole path) in
    let p = sent q.0 q.1 in
    let cut : ℕ → ℕ = (modes_of s).cut in
    let size : length (map cut written) ≡ length written = length-map written cut in
    let long : length (out q.0) ≡ length (out m) + length written = ap length p.passed.went.sends.grows
    ∙ (length-append (out m) (map cut written) ∙ ap (λ n. length (out m) + n) size) in
    let same = (same_pace fits.front m q.0 q.1).capacity in
    let r : Runs q.0 = record {
      sound = p.passed.sound;
      ticked = ticked-path fits.front m q.0 timely.ticked q.1;
      flows = λ e. omega (arith, long, same, room);
      off = unheld_in s q.0 (modes_of s) unheld fits.front q.1 p.passed.went.modes (modes_mcr s);
    } in
    let leaves = left_blocks m (most_in (settings_at s)) fits.front written [] (makes fits.front fits.first) in
    no_stall-room (settings_at s) off (settings_at s).limit fits.back q.0 t r (few_left s fits.front q.0 w timely leaves q.1)
    fits.second q.2
  where
    session : InSession (modes_of s) s
    session = in_session s ready w

    sent : (n : MachineState) → Path MachineStep (machine_of s) fits.front n →
        PassedBlocks (modes_of s) (machine_of s) n fits.front written []
    sent n p =
        passed_in_blocks (modes_of s) (most_in (settings_at s)) (machine_of s) n fits.front written [] session.open_modes session.stands
        (session_room (modes_of s) s session) (makes fits.front fits.first) p

-- ---- each call

pub flush_succeeds : (s t : State) (a : Answer) (l : List Access) (result : Result (Unit {0}) StalledError) → IsSound (machine_of s) →
    IsTimely s → IsUnheld (machine_of s) → HasRoom 0 (machine_of s) → a ≡ exact_answer result → Flushes result (settings_at s) l →
    Path MachineStep (machine_of s) l (machine_of t) → a ≡ Done
flush_succeeds s t a l (Ok x) w timely unheld room e h path = e
flush_succeeds s t a l (Err stall) w timely unheld room e h path =
    absurd (no_stall-empty (settings_at s) (settings_at s).limit l (machine_of s) (machine_of t) (runs s w timely unheld room)
    (few_left s [] (machine_of s) w timely (inr tt) refl) h.1 path)

pub write_succeeds : (s t : State) (a : Answer) (l : List Access) (bytes : List ℕ) (result : Result ℕ StalledError) →
    IsSound (machine_of s) → IsTimely s → IsUnheld (machine_of s) → IsUnchecked s → HasRoom (length bytes) (machine_of s) →
    a ≡ count_answer result →
    Writes bytes result (settings_at s) l → Path MachineStep (machine_of s) l (machine_of t) → (count : ℕ) × (a ≡ Count count)
write_succeeds s t a l bytes (Ok count) w timely unheld off room e h path = (count, e)
write_succeeds s t a l bytes (Err stall) w timely unheld off room e h path =
    let r = runs s w timely unheld (less_room 0 (length bytes) (machine_of s) (omega arith) room) in
    absurd (no_stall-room (settings_at s) off (settings_at s).limit l (machine_of s) (machine_of t) r
    (few_left s [] (machine_of s) w timely (inr tt) refl) h.2 path)

pub send_exact_succeeds : (s t : State) (a : Answer) (l : List Access) (bytes : List ℕ) (result : Result (Unit {0}) StalledError) →
    IsSound (machine_of s) → Ready s → IsTimely s → IsUnheld (machine_of s) → IsUnchecked s → HasRoom (length bytes) (machine_of s) →
    a ≡ exact_answer result →
    SendsExact bytes result (settings_at s) l → Path MachineStep (machine_of s) l (machine_of t) → a ≡ Done
send_exact_succeeds s t a l bytes (Ok x) w ready timely unheld off room e h path = e
send_exact_succeeds s t a l bytes (Err stall) w ready timely unheld off room e (pieces, rest, cut, some, count, made) path =
    let whole : length (concat pieces) + length rest ≡ length bytes = sym (length-append (concat pieces) rest)
    ∙ ap length (cut_whole (settings_at s) bytes pieces rest cut) in
    let free = less_room (length (concat pieces)) (length bytes) (machine_of s) (omega (arith, whole)) room in
    absurd (no_stall-after s (machine_of t) (InOrder Round pieces) l (concat pieces) w ready timely unheld off free
    (pieces_blocks (settings_at s) bytes pieces rest cut) made path)

pub text_succeeds : (s t : State) (a : Answer) (l : List Access) (text : List ℕ) (result : Result (Unit {0}) StalledError) →
    IsSound (machine_of s) → Ready s → IsTimely s → IsUnheld (machine_of s) → IsUnchecked s →
    HasRoom (length (expansion text)) (machine_of s) →
    a ≡ exact_answer result → SendsText text result (settings_at s) l → Path MachineStep (machine_of s) l (machine_of t) → a ≡ Done
text_succeeds s t a l text (Ok x) w ready timely unheld off room e h path = e
text_succeeds s t a l text (Err stall) w ready timely unheld off room e (sent, count, beginning) path =
    let front : List ℕ = take sent (expansion text) in
    let few : length front ≤ length (expansion text) = rw length-take (omega arith) in
    let free = less_room (length front) (length (expansion text)) (machine_of s) few room in
    absurd (no_stall-after s (machine_of t) (SendsEach front) l front w ready timely unheld off free
    (sends_each_blocks (settings_at s) front) beginning.1 path)
