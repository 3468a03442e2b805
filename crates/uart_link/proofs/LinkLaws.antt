-- What a link carries.
use Rattle.uart_link.proofs.Names.{◌≡◌, ℕ, ◌+◌, ◌≤◌, true, List, [], ◌∷◌, ◌++◌, length, drop, map, append_assoc, refl, sym, ◌∙◌, ap, arith}
use Rattle.uart_link.proofs.Names.{filter, drop-append-le, map-append, map-id, filter-append, Pending, Event, Modes, dlab-in, loopback-in}
use Rattle.uart_link.proofs.Names.{stands, waiting, arriving, cut_character, out, ReceiverState, mark_at, IsSound, held, Character, Arrived}
use Rattle.uart_link.proofs.Names.{InSession, IsWired, data_written, data_read, modes_at, begins_session, to_send, to_take, RingState}
use Rattle.uart_link.proofs.Names.{under, ring_machine, Side, Left, Right, Link, brought, numbered, on_cable, on_the_way, to_be_taken}
use Rattle.uart_link.proofs.Names.{receiver_at, not_dropped, Carries, IsJoined, BothReady, NoneCut, AllKeepOrderAt, all_sent, queued_at}
use Rattle.uart_link.proofs.Names.{bytes_gone, Queues, at_end, other, Step, LinkChain, LinkConserves, StaysAt, NoLineAt}
use Rattle.uart_run.proofs.Uncuts.{whole_cut}
use Rattle.uart_run.specs.Ready.{Ready}
use Rattle.uart_run.specs.Uncut.{IsUncut}
use Rattle.uart_link.proofs.{Agrees.keeps_agreed, Crossings.arriving_numbered, EndActs.arrived_after, EndPasses.InEnd, EndPasses.EndPasses}
use Rattle.uart_link.proofs.{AutoFlows.chips_drop_nothing, Flows.drops_nothing, LinkSteps.Brings, LinkSteps.LinkPasses}
use Rattle.uart_link.proofs.{LinkSteps.link_chain, LinkSteps.joined_after, LinkTold.tells_drops, Stays.stays, Stretches.Going}
use Rattle.uart_link.proofs.{Takings.takes_all_gone, Wholes.delivers, Wholes.carries_all, XoffEnds.all_tell_and_hold}
use Rattle.uart_link.proofs.{XoffFlows.xoff_drops_nothing}
use Rattle.uart_link.proofs.Rounds.{progresses, empties_receiver, keeps_rts_on, all_leave_armed}

-- ---- characters that have not arrived are not dropped

numbered-append : (k : ℕ) (xs ys : List ℕ) → numbered k (xs ++ ys) ≡ numbered k xs ++ numbered (k + length xs) ys
numbered-append k [] ys = ap (λ n. numbered n ys) (omega arith)
numbered-append k (x ∷ xs) ys =
    let e : (k + 1) + length xs ≡ k + length (x ∷ xs) = omega arith in
    ap (λ zs. record { byte = x; errors = 0; origin = Arrived k } ∷ zs)
    (numbered-append (k + 1) xs ys ∙ ap (λ n. numbered (k + 1) xs ++ numbered n ys) e)

numbered_stand : (r : ReceiverState) (k : ℕ) (bytes : List ℕ) → ((number : ℕ) → k ≤ number → mark_at r.marks number ≡ Pending) →
    not_dropped r (numbered k bytes) ≡ bytes
numbered_stand r k [] h = refl
numbered_stand r k (byte ∷ bytes) h =
    let new : Character = record { byte = byte; errors = 0; origin = Arrived k } in
    let rest = numbered_stand r (k + 1) bytes (λ number g. h number (omega (arith, g))) in
    let e : stands r new ≡ true = rw (h k (omega arith)) refl in
    rw e (ap (λ zs. byte ∷ zs) rest)

not_dropped-append : (r : ReceiverState) (xs ys : List Character) → not_dropped r (xs ++ ys) ≡ not_dropped r xs ++ not_dropped r ys
not_dropped-append r xs ys =
    let byte : Character → ℕ = λ character. character.byte in
    ap (map byte) (filter-append (stands r) xs ys) ∙ map-append byte (filter (stands r) xs) (filter (stands r) ys)

-- ---- one direction

-- all that arrived, and then what is on its way, is what was on its way and what was queued: of lists alone
on_the_way_lists : (came cable held waits written cable_before held_before waits_before queued : List ℕ) →
    (came ++ cable) ++ held ≡ cable_before ++ (held_before ++ written) → written ++ waits ≡ waits_before ++ queued →
    came ++ (cable ++ (held ++ waits)) ≡ (cable_before ++ (held_before ++ waits_before)) ++ queued
on_the_way_lists came cable held waits written cable_before held_before waits_before queued e f =
    ap (λ zs. came ++ zs) (sym (append_assoc cable held waits)) ∙ (sym (append_assoc came (cable ++ held) waits) ∙
    (ap (λ zs. zs ++ waits) (sym (append_assoc came cable held) ∙ e) ∙
    (append_assoc cable_before (held_before ++ written) waits ∙
    (ap (λ zs. cable_before ++ zs) (append_assoc held_before written waits ∙ (ap (λ zs. held_before ++ zs) f ∙
    sym (append_assoc held_before waits_before queued))) ∙
    sym (append_assoc cable_before (held_before ++ waits_before) queued)))))

-- nothing is cut in these modes
abbrev CutsNothing : Modes → Type 0
CutsNothing x = x.cut ≡ (λ (byte : ℕ). byte)

module _ (x y : Modes) (A B N O : Type 0) (q p e f : List ℕ) (s t r u : RingState) (g events : List Event)
    (sends : EndPasses x A q N s t e g)
    (gets : EndPasses y B p O r u f events) (b : Brings s t r u events)
    (starts : (ring_machine r).chip.receiver.arrived ≤ length (ring_machine s).chip.transmitter.wire) where
  all_way : CutsNothing x → A → brought events ++ on_the_way t u ≡ on_the_way s r ++ q
  all_way whole order =
      let c = (ring_machine s).chip.transmitter in
      let d = (ring_machine t).chip.transmitter in
      let k = (ring_machine r).chip.receiver.arrived in
      let written = data_written sends.made in
      let grows : d.wire ++ held d ≡ (c.wire ++ held c) ++ written =
      sends.went.sends.grows ∙ ap (λ zs. (c.wire ++ held c) ++ zs) (ap (λ (cut : ℕ → ℕ). map cut written) whole ∙ map-id written) in
      let before : drop k ((c.wire ++ held c) ++ written) ≡ drop k c.wire ++ (held c ++ written) =
      ap (drop k) (append_assoc c.wire (held c) written) ∙ drop-append-le k c.wire (held c ++ written) starts in
      let after : drop k (d.wire ++ held d) ≡ (brought events ++ on_cable (ring_machine t).chip (ring_machine u).chip) ++ held d =
      drop-append-le k d.wire (held d) b.crosses.starts ∙ ap (λ zs. zs ++ held d) b.crosses.same in
      on_the_way_lists (brought events) _ (held d) (to_send t) written _ (held c) (to_send s) q
      (sym after ∙ (ap (drop k) grows ∙ before)) (sends.sent order)

  -- what arrived was taken, or waits to be, if it was not dropped
  all_taken : CutsNothing y →
      f ++ to_be_taken u ≡ to_take r ++ not_dropped (receiver_at u) ((receiver_at r).queue
      ++ numbered (receiver_at r).arrived (brought events))
  all_taken whole =
      let k = (receiver_at r).arrived in
      let byte : Character → ℕ = λ character. character.byte in
      let came : map (cut_character y.cut) (arriving k events) ≡ numbered k (brought events) =
      ap (λ (cut : ℕ → ℕ). map (cut_character cut) (arriving k events)) whole ∙
      (map-id (arriving k events) ∙ arriving_numbered k events b.clean) in
      let stay : not_dropped (receiver_at u) ((receiver_at r).queue ++ numbered k (brought events)) ≡
      data_read gets.made ++ waiting (ring_machine u) =
      ap (λ (characters : List Character). not_dropped (receiver_at u) ((receiver_at r).queue ++ characters)) (sym came) ∙
      (ap (map byte) gets.went.receives.moved.stay ∙ (map-append byte gets.takes (receiver_at u).queue ∙
      ap (λ zs. zs ++ waiting (ring_machine u)) gets.bytes)) in
      sym (append_assoc f (to_take u) (waiting (ring_machine u))) ∙ (ap (λ zs. zs ++ waiting (ring_machine u)) gets.received ∙
      (append_assoc (to_take r) (data_read gets.made) (waiting (ring_machine u)) ∙ ap (λ zs. to_take r ++ zs) (sym stay)))

  carried : CutsNothing x → CutsNothing y → InEnd y u → A →
      f ++ (to_be_taken u ++ on_the_way t u) ≡ to_take r ++ not_dropped (receiver_at u)
      ((receiver_at r).queue ++ numbered (receiver_at r).arrived (on_the_way s r ++ q))
  carried whole whole_too session order =
      let k = (receiver_at r).arrived in
      let came = brought events in
      let way = on_the_way t u in
      let queue = (receiver_at r).queue in
      let R = receiver_at u in
      let number : k + length came ≡ R.arrived = sym (number_after) in
      let rest : not_dropped R (numbered (k + length came) way) ≡ way =
      ap (λ n. not_dropped R (numbered n way)) number ∙
      numbered_stand R R.arrived way session.session.stands.sound.chip.receiver.marked.to_come in
      let whole_queue : not_dropped R (queue ++ numbered k (on_the_way s r ++ q)) ≡ not_dropped R (queue ++ numbered k came) ++ way =
      ap (λ bytes. not_dropped R (queue ++ numbered k bytes)) (sym (all_way whole order)) ∙
      (ap (λ (characters : List Character). not_dropped R (queue ++ characters)) (numbered-append k came way) ∙
      (ap (not_dropped R) (sym (append_assoc queue (numbered k came) (numbered (k + length came) way))) ∙
      (not_dropped-append R (queue ++ numbered k came) (numbered (k + length came) way) ∙
      ap (λ zs. not_dropped R (queue ++ numbered k came) ++ zs) rest))) in
      sym (append_assoc f (to_be_taken u) way) ∙ (ap (λ zs. zs ++ way) (all_taken whole_too) ∙
      (append_assoc (to_take r) (not_dropped R (queue ++ numbered k came)) way ∙ ap (λ zs. to_take r ++ zs) (sym whole_queue)))
    where
      number_after : (receiver_at u).arrived ≡ (receiver_at r).arrived + length (brought events)
      number_after = arrived_after _ _ _ events gets.went

-- what has left an end and waits there grew by what was queued
queued_up : (x : Modes) (A N : Type 0) (q left : List ℕ) (s t : RingState) (events : List Event) → CutsNothing x →
    EndPasses x A q N s t left events → A → all_sent t ≡ all_sent s ++ q
queued_up x A N q left s t events whole p order =
    let written = data_written p.made in
    let before = out (ring_machine s) in
    let grows : out (ring_machine t) ≡ before ++ written =
    p.went.sends.grows ∙ ap (λ zs. before ++ zs) (ap (λ (cut : ℕ → ℕ). map cut written) whole ∙ map-id written) in
    ap (λ zs. zs ++ to_send t) grows ∙ (append_assoc before written (to_send t) ∙
    (ap (λ zs. before ++ zs) (p.sent order) ∙ sym (append_assoc before (to_send s) q)))

-- ---- a part of a run

-- the modes in which a session runs that cuts nothing
whole_modes : RingState → Modes
whole_modes s = record {
  lcr = (ring_machine s).chip.latches.lcr;
  mcr = (ring_machine s).chip.latches.mcr;
  fifo = (ring_machine s).chip.fifo;
  cut = λ byte. byte;
}

whole_session : (s : RingState) → Ready (under s) → IsUncut (under s) → IsSound (ring_machine s) → InSession (whole_modes s) (under s)
unfolding whole_modes
whole_session s ready uncut sound = record {
  open_modes = record { dlab = ready.dlab; loopback = ready.loopback };
  stands = record {
    sound = sound;
    modes = record { lcr = refl; mcr = refl; fifo = refl; cut = whole_cut (ring_machine s).chip uncut };
  };
  fifo = sym ready.fifo;
  fits = ready.fits;
}

cuts_nothing : (s : RingState) → CutsNothing (whole_modes s)
unfolding whole_modes
cuts_nothing s = refl

whole_end : (s : RingState) → Ready (under s) → IsUncut (under s) → IsSound (ring_machine s) → IsWired (under s) →
    InEnd (whole_modes s) s
whole_end s ready uncut sound wired =
    record { session = begins_session (whole_modes s) s (whole_session s ready uncut sound); wired = wired }

ready_after : (x : Modes) (s : RingState) → InEnd x s → Ready (under s)
ready_after x s w = record {
  dlab = dlab-in (modes_at x s) (ring_machine s).chip w.session.stands.modes ∙ w.session.open_modes.dlab;
  loopback = loopback-in (modes_at x s) (ring_machine s).chip w.session.stands.modes ∙ w.session.open_modes.loopback;
  fifo = w.session.stands.modes.fifo ∙ sym w.session.fifo;
  fits = w.session.fits;
}

-- what each direction carries
carries : (x y : Modes) (a b : Link) (steps : List Step) → InEnd x a.left → InEnd y a.right → IsJoined a → CutsNothing x →
    CutsNothing y → LinkChain a steps b → (end : Side) → Carries end a steps b
carries x y a b steps w v joined whole whole_too chain end = by end (link_chain x y a b steps w v joined chain)
  where
    by : (end : Side) →
        LinkPasses x y (λ end. AllKeepOrderAt end steps) (λ end. NoLineAt end steps) (λ end. queued_at end steps)
        (λ end. bytes_gone end steps) a b → Carries end a steps b
    by Left p = carried x y _ _ _ _ _ _ _ _ a.left b.left a.right b.right _ _ p.left p.right p.rightward joined.right.behind whole
        whole_too p.in_right
    by Right p = carried y x _ _ _ _ _ _ _ _ a.right b.right a.left b.left _ _ p.right p.left p.leftward joined.left.behind
        whole_too whole p.in_left

-- what has left an end and waits there grew by what was queued
queues : (x y : Modes) (a b : Link) (steps : List Step) → CutsNothing x → CutsNothing y →
    LinkPasses x y (λ end. AllKeepOrderAt end steps) (λ end. NoLineAt end steps) (λ end. queued_at end steps)
    (λ end. bytes_gone end steps) a b → (end : Side) → Queues end a steps b
queues x y a b steps whole whole_too p Left = queued_up x _ _ _ _ a.left b.left _ whole p.left
queues x y a b steps whole whole_too p Right = queued_up y _ _ _ _ a.right b.right _ whole_too p.right

pub link_conserves : (a b : Link) (steps : List Step) → IsSound (ring_machine a.left) → IsSound (ring_machine a.right) →
    IsWired (under a.left) → IsWired (under a.right) → IsJoined a → BothReady a → NoneCut a → LinkChain a steps b →
    LinkConserves a steps b
link_conserves a b steps sound_left sound_right wired_left wired_right joined ready uncut chain =
    let x = whole_modes a.left in
    let y = whole_modes a.right in
    let w = whole_end a.left ready.left uncut.left sound_left wired_left in
    let v = whole_end a.right ready.right uncut.right sound_right wired_right in
    let p = link_chain x y a b steps w v joined chain in
    let going : Going x y a = record { left = w; right = v; joined = joined } in
    let kept : (end : Side) → StaysAt (at_end end a) (at_end end b) = λ end. stays x y end steps a b going chain in
    let all : (part : List Step) (u : Link) → LinkChain a part u → (end : Side) → Carries end a part u = λ part u within end.
    carries x y a u part w v joined (cuts_nothing a.left) (cuts_nothing a.right) within end in
    record {
      rightward = all steps b chain Left;
      leftward = all steps b chain Right;
      taken = λ end. takes_all_gone end steps;
      tells = λ end. tells_drops x y a b steps end w v joined chain;
      whole = λ end pace paced. delivers end a b steps (sound_there end) (all steps b chain end)
          (drops_nothing x y pace end a b steps w v joined chain paced);
      whole_by_xoff = λ end pace paced. delivers end a b steps (sound_there end) (all steps b chain end)
          (xoff_drops_nothing x y pace end a b steps w v joined chain paced);
      whole_by_chip = λ end late paced. delivers end a b steps (sound_there end) (all steps b chain end)
          (chips_drop_nothing x y late end a b steps w v joined chain paced);
      told_and_held = λ end. all_tell_and_hold x y end steps a b going (cuts_nothing a.left)
          (cuts_nothing a.right) chain;
      agreed = λ end. keeps_agreed x y end a b steps w v joined (cuts_nothing a.left) (cuts_nothing a.right)
          (λ u o part in_left in_right between within. carries x y u o part in_left in_right between (cuts_nothing a.left)
          (cuts_nothing a.right) within end) chain;
      progress = λ end. progresses x y end steps a b w v joined chain
          (λ part u within none. carries_all end a u part (sound_there end) none (all part u within end));
      handled = λ end. empties_receiver x y end steps a b w v joined chain;
      rts = λ end. keeps_rts_on x y end steps a b w v joined chain;
      armed = λ end. all_leave_armed x y end steps a b going chain;
      queues = queues x y a b steps (cuts_nothing a.left) (cuts_nothing a.right) p;
      stays = kept;
      ready = record { left = ready_after x b.left p.in_left; right = ready_after y b.right p.in_right };
      joined = joined_after x y _ _ _ _ a b p;
      uncut = record { left = (kept Left).chip.cuts ∙ uncut.left; right = (kept Right).chip.cuts ∙ uncut.right };
    }
  where
    sound_there : (end : Side) → IsSound (ring_machine (at_end (other end) a))
    sound_there Left = sound_right
    sound_there Right = sound_left
