-- In a ready state no call changes the size of the FIFOs, so where no call is held up, none is at the next. And in a session the wire and
-- the rings fill by no more than its calls are to send or add, so room for all of it at the start is room for each.
use Rattle.uart_ring_runs.proofs.Names.{◌≡◌, ℕ, ◌+◌, ◌-◌, ◌≤◌, Bool, ◌&&◌, List, [], ◌∷◌, ◌++◌, length, map, take, Option, Some, None, refl}
use Rattle.uart_ring_runs.proofs.Names.{arith, sym, ◌∙◌, ap, subst, length-append, length-take, length-drop, option_to_list, append_assoc}
use Rattle.uart_ring_runs.proofs.Names.{length-map, has_any, Call, Answer, Done, Stalled, cut_of, out, MachineState, same_pace}
use Rattle.uart_ring_runs.proofs.Names.{same_pace-mark, EachLink, HasRoom, IsUnchecked, IsUnheld, KeepsChecks, GoesOn, Follows, count_of}
use Rattle.uart_ring_runs.proofs.Names.{sent_of, sent_byte_of, reported_by, IsUnhindered, IsWired, Lasts, lasts_wired, keeps_size}
use Rattle.uart_ring_runs.proofs.Names.{overtaken_by, RingCall, RingAnswer, to_send, to_send_with, FollowsDriver, RingFollows}
use Rattle.uart_ring_runs.proofs.Names.{KeepsRingSize, KeepsRingChecks, RingState, under, ring_machine, RingCallStep, RingLink, RingChain}
use Rattle.uart_ring_runs.proofs.Names.{IsWithinRingSession, AllWithinRingSession, SendsInLine, AllRingFollow, RanRing}
use Rattle.uart_spec.specs.declared.registers.modem_control.TheConstants.MCR
use Rattle.uart_16550.specs.Expansion.{expansion}
use Rattle.uart_call.specs.declared.call.Call.TheVariants as driver
use Rattle.uart_chip.proofs.AutoFlow.{never_on}
use Rattle.uart_run.specs.Unhindered as run
use Rattle.uart_run.specs.Unhindered.{Ends}
use Rattle.uart_ring_runs.specs.declared.call.RingCall.TheVariants as call
use Rattle.uart_ring_runs.specs.declared.call.RingAnswer.TheVariants as answer
use Rattle.uart_ring_runs.specs.RingUnhindered.{to_add, RingEnds, RingEndsWithRoom, RingCallsEnd, RingCallsSucceed}
use Rattle.uart_ring_runs.specs.RingUnhindered.{HasRingRoom, all_to_add, RingSessionsSucceed}
use Rattle.uart_ring_runs.proofs.RingLasts.{ring_lasts_call, within_later}

-- ---- one call

keeps_ring_size : (s : RingState) (c : RingCall) → IsUnhindered (under s) → KeepsRingSize s c
keeps_ring_size s (call.Driver c) u = keeps_size (under s) c u.ready.dlab
keeps_ring_size s other u = tt

unhindered_call : (s t : RingState) (c : RingCall) (a : RingAnswer) → RingFollows s c a t → IsUnhindered (under s) → IsUnhindered (under t)
unhindered_call s t c a f u = record {
  ready = f.ready u.ready;
  timely = f.timely (keeps_ring_size s c u) u.timely;
  lacks_flow = f.flow ∙ u.lacks_flow;
}

-- the chip has no automatic flow control, so this is off, and no setup turns it on
unheld : (s : RingState) → IsUnhindered (under s) → IsUnheld (ring_machine s)
unheld s u = never_on (ring_machine s).chip u.lacks_flow

driver_ends : (s t : RingState) (c : Call) (a : Answer) → Follows (under s) c a (under t) → IsUnhindered (under s) →
    HasRoom (run.to_send c) (ring_machine s) → Ends (IsUnchecked (under s)) (under s) c a
driver_ends s t (driver.Init config) a f u = f.succeeds u.timely
driver_ends s t (driver.InitWith config setup) a f u =
    f.succeeds u.timely (unheld s u, ap (λ (b : Bool). b && has_any setup.outputs.0 MCR.AUTO_FLOW.0) u.lacks_flow)
driver_ends s t (driver.SetFrameWhenIdle config) a f u = f.succeeds u.timely u.ready (unheld s u)
driver_ends s t driver.TestLoopback a f u = f.succeeds u.timely u.ready (unheld s u)
driver_ends s t driver.Flush a f u = f.succeeds u.timely u.ready (unheld s u)
driver_ends s t (driver.SendExact bytes) a f u = λ room off. f.succeeds u.timely u.ready (unheld s u) off room
driver_ends s t (driver.Write bytes) a f u = λ room off. f.succeeds u.timely u.ready (unheld s u) off room
driver_ends s t (driver.Text text) a f u = λ room off. f.succeeds u.timely u.ready (unheld s u) off room
driver_ends s t other a f u = λ room. tt

by_answer : (s t : RingState) (c : Call) (a : RingAnswer) → FollowsDriver s (call.Driver c) a t → IsUnhindered (under s) →
    RingEndsWithRoom s (call.Driver c) a t
by_answer s t c (answer.Driver a) f u = driver_ends s t c a f u
by_answer s t c other f u = λ room. tt

ends_ring_call : (s t : RingState) (c : RingCall) (a : RingAnswer) → RingFollows s c a t → IsUnhindered (under s) → RingEndsWithRoom s c a t
ends_ring_call s t (call.Driver c) a f u = by_answer s t c a f.driver u
ends_ring_call s t other a f u = λ room. tt

-- ---- each call of a run

ends_chain : (s t : RingState) (links : List RingLink) → AllRingFollow links → RingChain s links t → IsUnhindered (under s) →
    RingCallsEnd links t
ends_chain s t [] f h u = record { end = tt; unhindered = subst (λ (v : RingState). IsUnhindered (under v)) (sym h) u }
ends_chain s t (link ∷ links) f h u =
    let here : IsUnhindered (under link.before) = subst (λ (v : RingState). IsUnhindered (under v)) (sym h.0) u in
    let next = unhindered_call link.before link.after link.call link.answer f.0 here in
    let others = ends_chain link.after t links f.1 h.2 next in
    record {
      end = (ends_ring_call link.before link.after link.call link.answer f.0 here, others.end);
      unhindered = others.unhindered;
    }

follow_rest : (front rest : List RingLink) → AllRingFollow (front ++ rest) → AllRingFollow rest
follow_rest [] rest f = f
follow_rest (link ∷ front) rest f = follow_rest front rest f.1

pub ring_calls_succeed : RingCallsSucceed
ring_calls_succeed s t calls answers ran front rest a parts chain u =
    ends_chain a t rest (follow_rest front rest (subst AllRingFollow parts ran.follows)) chain u

-- ---- room

take-few : (n : ℕ) (bytes : List ℕ) → length (take n bytes) ≤ length bytes
take-few n bytes = rw length-take (omega arith)

byte-few : (byte : ℕ) (a : Answer) → length (sent_byte_of byte a) ≤ 1
byte-few byte Done = omega arith
byte-few byte other = omega arith

sent-few : (bytes : List ℕ) (a : Answer) → length (sent_of bytes a) ≤ length bytes
sent-few bytes Done = omega arith
sent-few bytes (Stalled done) = take-few done bytes
sent-few bytes other = omega arith

-- a call of the driver reports no more than it is to send
reported-few : (c : Call) (a : Answer) → length (reported_by c a) ≤ run.to_send c
reported-few (driver.TrySend byte) a = byte-few byte a
reported-few (driver.Send bytes) a = take-few (count_of a) bytes.items
reported-few (driver.Write bytes) a = take-few (count_of a) bytes.items
reported-few (driver.SendExact bytes) a = sent-few bytes.items a
reported-few (driver.Text text) a = sent-few (expansion text.bytes) a
reported-few other a = omega arith

-- and no call makes more of what waits than it is to add
more : (xs ys : List ℕ) (n : ℕ) → length ys ≤ n → length (xs ++ ys) ≤ n + length xs
more xs ys n few = let sums = length-append xs ys in omega (arith, few, sums)

before : (xs ys : List ℕ) (n : ℕ) → length xs ≤ n → length (xs ++ ys) ≤ n + length ys
before xs ys n few = let sums = length-append xs ys in omega (arith, few, sums)

told-few : (told : Option ℕ) → length (option_to_list told) ≤ 1
told-few None = omega arith
told-few (Some byte) = omega arith

overtaken-few : (byte : ℕ) (replaced : Option ℕ) (bytes : List ℕ) → length (overtaken_by byte replaced bytes) ≤ 1 + length bytes
overtaken-few byte replaced bytes = rw length-drop (omega arith)

added-few : (c : RingCall) (a : RingAnswer) (bytes : List ℕ) → length (to_send_with c a bytes) ≤ to_add c + length bytes
added-few (call.Queue queued) (answer.Count count) bytes = more bytes (take count queued.items) _ (take-few count queued.items)
added-few (call.Queue queued) other bytes = more bytes [] _ (omega arith)
added-few (call.QueueUrgent byte) (answer.Replaced replaced) bytes = overtaken-few byte replaced bytes
added-few (call.QueueUrgent byte) other bytes = more bytes [] _ (omega arith)
added-few (call.AdjustXoff marks) (answer.Told told) bytes = before (option_to_list told) bytes _ (told-few told)
added-few (call.AdjustXoff marks) other bytes = more bytes [] _ (omega arith)
added-few call.ClearTransmit (answer.Count count) bytes = let few = take-few (length bytes - count) bytes in omega (arith, few)
added-few call.ClearTransmit other bytes = more bytes [] _ (omega arith)
added-few (call.Driver c) (answer.Driver a) bytes = before (reported_by c a) bytes _ (reported-few c a)
added-few (call.Driver c) other bytes = more bytes [] _ (omega arith)
added-few other a bytes = more bytes [] _ (omega arith)

-- how much the wire takes
lasts_capacity : (capacity : ℕ) → Lasts (λ (m : MachineState). m.chip.transmitter.capacity ≡ capacity)
lasts_capacity capacity = record {
  path = λ made m n e p. (same_pace made m n p).capacity ∙ e;
  mark = λ m e. (same_pace-mark m).capacity ∙ e;
}

-- room for a call and for more is room for more after it
room_after : (s t : RingState) (c : RingCall) (a : RingAnswer) (n : ℕ) → RingCallStep s c a t →
    SendsInLine (record { before = s; call = c; answer = a; after = t }) → HasRingRoom (to_add c + n) s → HasRingRoom n t
room_after s t c a n h sends room =
    let cut : ℕ → ℕ = cut_of (ring_machine s).chip in
    let few = added-few c a (to_send s) in
    let there : length (out (ring_machine t) ++ map cut (to_send t)) ≡ length (out (ring_machine t)) + length (to_send t) =
    length-append (out (ring_machine t)) (map cut (to_send t)) ∙
    ap (λ (k : ℕ). length (out (ring_machine t)) + k) (length-map (to_send t) cut) in
    let here : length (out (ring_machine s) ++ map cut (to_send_with c a (to_send s))) ≡
    length (out (ring_machine s)) + length (to_send_with c a (to_send s)) =
    length-append (out (ring_machine s)) (map cut (to_send_with c a (to_send s))) ∙
    ap (λ (k : ℕ). length (out (ring_machine s)) + k) (length-map (to_send_with c a (to_send s)) cut) in
    let grows : length (out (ring_machine t)) + length (to_send t) ≡
    length (out (ring_machine s)) + length (to_send_with c a (to_send s)) = sym there ∙ (ap length sends ∙ here) in
    let same : (ring_machine t).chip.transmitter.capacity ≡ (ring_machine s).chip.transmitter.capacity =
    ring_lasts_call s t c a (lasts_capacity (ring_machine s).chip.transmitter.capacity) refl h in
    omega (arith, few, grows, same, room)

-- ---- each call of a session

-- what is said of a call that sends holds under each condition from which that condition follows
ends_if : (U V : Type 0) (s : RingState) (c : Call) (a : Answer) → (U → V) → Ends V (under s) c a → Ends U (under s) c a
ends_if U V s (driver.SendExact bytes) a f e = λ u. e (f u)
ends_if U V s (driver.Write bytes) a f e = λ u. e (f u)
ends_if U V s (driver.Text text) a f e = λ u. e (f u)
ends_if U V s other a f e = e

ring_ends_if : (U V : Type 0) (s : RingState) (c : RingCall) (a : RingAnswer) → (U → V) → RingEnds V s c a → RingEnds U s c a
ring_ends_if U V s (call.Driver c) (answer.Driver a) f e = ends_if U V s c a f e
ring_ends_if U V s (call.Driver c) other f e = e
ring_ends_if U V s other a f e = e

-- no call of a session has the driver check CTS
goes_unchecked : (W : Type 0) (c : Call) → GoesOn W c → KeepsChecks c
goes_unchecked W (driver.Init config) i = i
goes_unchecked W (driver.InitWith config setup) i = i
goes_unchecked W other i = tt

within_unchecked : (s : RingState) (c : RingCall) → IsWithinRingSession s c → KeepsRingChecks c
within_unchecked s (call.Driver c) i = goes_unchecked (IsWired (under s)) c i
within_unchecked s other i = tt

chain_append : (s t u : RingState) (xs ys : List RingLink) → RingChain s xs t → RingChain t ys u → RingChain s (xs ++ ys) u
chain_append s t u [] ys h k = subst (λ (v : RingState). RingChain v ys u) h k
chain_append s t u (x ∷ xs) ys h k = (h.0, h.1, chain_append x.after t u xs ys h.2 k)

module _ (s t : RingState) (calls : List RingCall) (answers : List RingAnswer) (ran : RanRing s calls answers t) (U : Type 0) where
  pub record Within (front session rest : List RingLink) (a b : RingState) : Type 0 where
    pub parts : ran.run.links ≡ front ++ (session ++ rest)
    pub before : RingChain s front a
    pub chain : RingChain a session b
    pub behind : RingChain b rest t
    pub within : AllWithinRingSession a session
    pub unchecked : U → IsUnchecked (under a)

  pub record Ended (session : List RingLink) (b : RingState) : Type 0 where
    pub end : EachLink (λ before c a after. RingEnds U before c a) session
    pub unhindered : IsUnhindered (under b)
    pub room : HasRingRoom 0 b

  each_ends : (front session rest : List RingLink) (a b : RingState) → Within front session rest a b → IsUnhindered (under a) →
      HasRingRoom (all_to_add session) a → Ended session b
  each_ends front [] rest a b w u room = record {
    end = tt;
    unhindered = subst (λ (v : RingState). IsUnhindered (under v)) (sym w.chain) u;
    room = subst (HasRingRoom 0) (sym w.chain) room;
  }
  each_ends front (link ∷ session) rest a b w u room =
      let from = sym w.chain.0 in
      let f : RingFollows link.before link.call link.answer link.after =
      (follow_rest front (link ∷ (session ++ rest)) (subst AllRingFollow w.parts ran.follows)).0 in
      let one : RingChain a (link ∷ []) link.after = (w.chain.0, w.chain.1, refl) in
      let c = ran.sessions front (link ∷ []) (session ++ rest) a link.after w.parts w.before one
      (chain_append link.after b t session rest w.chain.2 w.behind) (u.ready, (w.within.0, tt)) in
      let here : IsUnhindered (under link.before) = subst (λ (v : RingState). IsUnhindered (under v)) from u in
      let enough : HasRingRoom (to_add link.call + all_to_add session) link.before =
      subst (HasRingRoom (to_add link.call + all_to_add session)) from room in
      let some : HasRoom (to_add link.call) (ring_machine link.before) = omega (arith, enough) in
      let off : U → IsUnchecked (under link.before) = λ v. subst (λ (r : RingState). IsUnchecked (under r)) from (w.unchecked v) in
      let wired : IsWired (under a) → IsWired (under link.after) =
      λ v. ring_lasts_call link.before link.after link.call link.answer lasts_wired
      (subst (λ (r : RingState). IsWired (under r)) from v) w.chain.1 in
      let others = each_ends (front ++ link ∷ []) session rest link.after b
      (record {
        parts = w.parts ∙ sym (append_assoc front (link ∷ []) (session ++ rest));
        before = chain_append s a link.after front (link ∷ []) w.before one;
        chain = w.chain.2;
        behind = w.behind;
        within = within_later a link.after session wired w.within.1;
        unchecked = λ v. f.checks (within_unchecked a link.call w.within.0) (off v);
      }) (unhindered_call link.before link.after link.call link.answer f here)
      (room_after link.before link.after link.call link.answer (all_to_add session) w.chain.1 c.in_line.0 enough) in
      record {
        end = (
          ring_ends_if U (IsUnchecked (under link.before)) link.before link.call link.answer off
              (ends_ring_call link.before link.after link.call link.answer f here some),
          others.end,
        );
        unhindered = others.unhindered;
        room = others.room;
      }

pub ring_sessions_succeed : RingSessionsSucceed
ring_sessions_succeed s t calls answers ran front session rest a b parts before chain behind u within room =
    let e = each_ends s t calls answers ran (IsUnchecked (under a)) front session rest a b
    (record {
      parts = parts;
      before = before;
      chain = chain;
      behind = behind;
      within = within;
      unchecked = λ v. v;
    }) u room in
    record { end = e.end; unhindered = e.unhindered; room = e.room }
