-- In a ready state no call changes the size of the FIFOs, so where no call is held up, none is at the next. And in a session the wire fills
-- by no more than its calls are to send, so room for all of it at the start is room for each.
use Rattle.uart_run.proofs.Names.{◌≡◌, ℕ, ◌+◌, ◌≤◌, Bool, ◌&&◌, List, [], ◌∷◌, ◌++◌, length, map, take, refl, arith, sym, ◌∙◌, ap, subst}
use Rattle.uart_run.proofs.Names.{length-append, append_assoc, append-nil, length-map, length-take, has_any, expansion, Call, Answer, Done}
use Rattle.uart_run.proofs.Names.{cut_of, MachineState, never_on, same_pace, same_pace-mark, EachLink, State, machine_of, CallStep, Link}
use Rattle.uart_run.proofs.Names.{Chain, transmitter_of, IsWired, HasRoom, IsUnchecked, IsUnheld, KeepsChecks, GoesOn, AllCalls, Conserves}
use Rattle.uart_run.proofs.Names.{Follows, AllFollow, Ran, count_of, sent_of, sent_byte_of, reported_by}
use Rattle.uart_spec.specs.declared.registers.modem_control.TheConstants.MCR
use Rattle.uart_call.specs.declared.call.Call.TheVariants as call
use Rattle.uart_call.specs.declared.call.Answer.TheVariants.{Stalled}
use Rattle.uart_chip.specs.Conserved.{out}
use Rattle.uart_run.specs.Unhindered.{IsUnhindered, to_send, Ends, EndsWithRoom, CallsEnd, CallsSucceed}
use Rattle.uart_run.specs.Unhindered.{all_to_send, SessionsSucceed}
use Rattle.uart_run.proofs.{SizeKept.keeps_size, Sessions.Lasts, Sessions.lasts_call, Sessions.goes_on}

-- ---- one call

unhindered_call : (s t : State) (c : Call) (a : Answer) → Follows s c a t → IsUnhindered s → IsUnhindered t
unhindered_call s t c a f u = record {
  ready = f.ready u.ready;
  timely = f.timely (keeps_size s c u.ready.dlab) u.timely;
  lacks_flow = f.flow ∙ u.lacks_flow;
}

unheld : (s : State) → IsUnhindered s → IsUnheld (machine_of s)
unheld s u = never_on (machine_of s).chip u.lacks_flow

ends_call : (s t : State) (c : Call) (a : Answer) → Follows s c a t → IsUnhindered s → EndsWithRoom s c a t
ends_call s t (call.Init config) a f u = f.succeeds u.timely
ends_call s t (call.InitWith config setup) a f u =
    f.succeeds u.timely (unheld s u, ap (λ (b : Bool). b && has_any setup.outputs.0 MCR.AUTO_FLOW.0) u.lacks_flow)
ends_call s t (call.SetFrameWhenIdle config) a f u = f.succeeds u.timely u.ready (unheld s u)
ends_call s t call.TestLoopback a f u = f.succeeds u.timely u.ready (unheld s u)
ends_call s t call.Flush a f u = f.succeeds u.timely u.ready (unheld s u)
ends_call s t (call.SendExact bytes) a f u = λ room off. f.succeeds u.timely u.ready (unheld s u) off room
ends_call s t (call.Write bytes) a f u = λ room off. f.succeeds u.timely u.ready (unheld s u) off room
ends_call s t (call.Text text) a f u = λ room off. f.succeeds u.timely u.ready (unheld s u) off room
ends_call s t other a f u = λ room. tt

-- ---- each call of a run

ends_chain : (s t : State) (links : List Link) → AllFollow links → Chain s links t → IsUnhindered s → CallsEnd links t
ends_chain s t [] f h u = record { end = tt; unhindered = subst IsUnhindered (sym h) u }
ends_chain s t (link ∷ links) f h u =
    let here : IsUnhindered link.before = subst IsUnhindered (sym h.0) u in
    let next : IsUnhindered link.after = unhindered_call link.before link.after link.call link.answer f.0 here in
    let others = ends_chain link.after t links f.1 h.2 next in
    record {
      end = (ends_call link.before link.after link.call link.answer f.0 here, others.end);
      unhindered = others.unhindered;
    }

follow_rest : (front rest : List Link) → AllFollow (front ++ rest) → AllFollow rest
follow_rest [] rest f = f
follow_rest (link ∷ front) rest f = follow_rest front rest f.1

pub calls_succeed : CallsSucceed
calls_succeed s t calls answers ran front rest a parts chain u =
    ends_chain a t rest (follow_rest front rest (subst AllFollow parts ran.follows)) chain u

-- ---- room

take-few : (n : ℕ) (bytes : List ℕ) → length (take n bytes) ≤ length bytes
take-few n bytes = rw length-take (omega arith)

byte-few : (byte : ℕ) (a : Answer) → length (sent_byte_of byte a) ≤ 1
byte-few byte Done = omega arith
byte-few byte other = omega arith

sent-few : (bytes : List ℕ) (a : Answer) → length (sent_of bytes a) ≤ length bytes
sent-few bytes Done = omega arith
sent-few bytes (Stalled done) = take-few done bytes
sent-few bytes other = omega arith

-- a call reports no more than it is to send
reported-few : (c : Call) (a : Answer) → length (reported_by c a) ≤ to_send c
reported-few (call.TrySend byte) a = byte-few byte a
reported-few (call.Send bytes) a = take-few (count_of a) bytes.items
reported-few (call.Write bytes) a = take-few (count_of a) bytes.items
reported-few (call.SendExact bytes) a = sent-few bytes.items a
reported-few (call.Text text) a = sent-few (expansion text.bytes) a
reported-few other a = omega arith

-- how much the wire takes
lasts_capacity : (capacity : ℕ) → Lasts (λ (m : MachineState). m.chip.transmitter.capacity ≡ capacity)
lasts_capacity capacity = record {
  path = λ made m n e p. (same_pace made m n p).capacity ∙ e;
  mark = λ m e. (same_pace-mark m).capacity ∙ e;
}

-- room for a call and for more is room for more after it
room_after : (s : State) (link : Link) (n : ℕ) → link.before ≡ s → CallStep link.before link.call link.answer link.after →
    Conserves s (link ∷ []) link.after → HasRoom (to_send link.call + n) (machine_of s) → HasRoom n (machine_of link.after)
room_after s link n from h c room =
    let bytes : List ℕ = reported_by link.call link.answer in
    let few = reported-few link.call link.answer in
    let cut : ℕ → ℕ = cut_of (machine_of s).chip in
    let grows : length (out (machine_of link.after)) ≡ length (out (machine_of s)) + length bytes =
    ap length c.sent ∙ (length-append (out (machine_of s)) (map cut (bytes ++ [])) ∙
    ap (λ (k : ℕ). length (out (machine_of s)) + k) (length-map (bytes ++ []) cut ∙ ap length (append-nil bytes))) in
    let at_call : (transmitter_of link.after).capacity ≡ (transmitter_of link.before).capacity =
    lasts_call link.before link.after link.call link.answer (lasts_capacity (transmitter_of link.before).capacity) refl h in
    let same : (transmitter_of link.after).capacity ≡ (transmitter_of s).capacity =
    at_call ∙ ap (λ (v : State). (transmitter_of v).capacity) from in
    omega (arith, few, grows, same, room)

-- ---- each call of a session

-- what is said of a call that sends holds under each condition from which that condition follows
ends_if : (U V : Type 0) (s : State) (c : Call) (a : Answer) → (U → V) → Ends V s c a → Ends U s c a
ends_if U V s (call.SendExact bytes) a f e = λ u. e (f u)
ends_if U V s (call.Write bytes) a f e = λ u. e (f u)
ends_if U V s (call.Text text) a f e = λ u. e (f u)
ends_if U V s other a f e = e

-- no call of a session has the driver check CTS
goes_unchecked : (W : Type 0) (c : Call) → GoesOn W c → KeepsChecks c
goes_unchecked W (call.Init config) i = i
goes_unchecked W (call.InitWith config setup) i = i
goes_unchecked W other i = tt

chain_append : (s t u : State) (xs ys : List Link) → Chain s xs t → Chain t ys u → Chain s (xs ++ ys) u
chain_append s t u [] ys h k = subst (λ (v : State). Chain v ys u) h k
chain_append s t u (x ∷ xs) ys h k = (h.0, h.1, chain_append x.after t u xs ys h.2 k)

module _ (s t : State) (calls : List Call) (answers : List Answer) (ran : Ran s calls answers t) (W U : Type 0) where
  pub record Within (front session rest : List Link) (a b : State) : Type 0 where
    pub parts : ran.run.links ≡ front ++ (session ++ rest)
    pub before : Chain s front a
    pub chain : Chain a session b
    pub behind : Chain b rest t
    pub within : AllCalls (GoesOn W) session
    pub wired : W → IsWired a
    pub unchecked : U → IsUnchecked a

  pub record Ended (session : List Link) (b : State) : Type 0 where
    pub end : EachLink (λ before call a after. Ends U before call a) session
    pub unhindered : IsUnhindered b
    pub room : HasRoom 0 (machine_of b)

  each_ends : (front session rest : List Link) (a b : State) → Within front session rest a b → IsUnhindered a →
      HasRoom (all_to_send session) (machine_of a) → Ended session b
  each_ends front [] rest a b w u room = record {
    end = tt;
    unhindered = subst IsUnhindered (sym w.chain) u;
    room = subst (λ (v : State). HasRoom 0 (machine_of v)) (sym w.chain) room;
  }
  each_ends front (link ∷ session) rest a b w u room =
      let from = sym w.chain.0 in
      let f : Follows link.before link.call link.answer link.after =
      (follow_rest front (link ∷ (session ++ rest)) (subst AllFollow w.parts ran.follows)).0 in
      let one : Chain a (link ∷ []) link.after = (w.chain.0, w.chain.1, refl) in
      let c = ran.sessions front (link ∷ []) (session ++ rest) a link.after w.parts w.before one
      (chain_append link.after b t session rest w.chain.2 w.behind) (u.ready, (goes_on W a link.call w.wired w.within.0, tt)) in
      let here : IsUnhindered link.before = subst IsUnhindered from u in
      let some : HasRoom (to_send link.call) (machine_of a) = omega (arith, room) in
      let there : HasRoom (to_send link.call) (machine_of link.before) =
      subst (λ (v : State). HasRoom (to_send link.call) (machine_of v)) from some in
      let off : U → IsUnchecked link.before = λ v. subst IsUnchecked from (w.unchecked v) in
      let others = each_ends (front ++ link ∷ []) session rest link.after b
      (record {
        parts = w.parts ∙ sym (append_assoc front (link ∷ []) (session ++ rest));
        before = chain_append s a link.after front (link ∷ []) w.before one;
        chain = w.chain.2;
        behind = w.behind;
        within = w.within.1;
        wired = λ v. f.wired (subst IsWired from (w.wired v));
        unchecked = λ v. f.checks (goes_unchecked W link.call w.within.0) (off v);
      }) (unhindered_call link.before link.after link.call link.answer f here)
      (room_after a link (all_to_send session) w.chain.0 w.chain.1 c room) in
      record {
        end = (
          ends_if U (IsUnchecked link.before) link.before link.call link.answer off
              (ends_call link.before link.after link.call link.answer f here there),
          others.end,
        );
        unhindered = others.unhindered;
        room = others.room;
      }

pub sessions_succeed : SessionsSucceed
sessions_succeed s t calls answers ran front session rest a b parts before chain behind u within room =
    let e = each_ends s t calls answers ran (IsWired a) (IsUnchecked a) front session rest a b
    (record {
      parts = parts;
      before = before;
      chain = chain;
      behind = behind;
      within = within;
      wired = λ w. w;
      unchecked = λ v. v;
    }) u room in
    record { end = e.end; unhindered = e.unhindered; room = e.room }
