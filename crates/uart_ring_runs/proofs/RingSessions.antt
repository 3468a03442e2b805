-- What a session of ring calls conserves, and runs of them.
use Rattle.uart_ring_runs.proofs.Names.{◌≡◌, ℕ, ◌≤◌, List, [], ◌∷◌, ◌++◌, length, take, map, sym, ◌∙◌, ap, subst, append_assoc, filter}
use Rattle.uart_ring_runs.proofs.Names.{map-id, map-append, Character, cut_of, IsSound, out, kept, stands, Modes, received_kept, RunOf}
use Rattle.uart_ring_runs.proofs.Names.{run_whole, InSession, same_cut, modes_of, in_session, lasts_sound, RingCall, RingAnswer, RingState}
use Rattle.uart_ring_runs.proofs.Names.{under, ring_machine, RingCallStep, RingLink, RingChain, to_send, to_take, queued, gone}
use Rattle.uart_ring_runs.proofs.Names.{to_send_with, AllKeepOrder, AllTakeInTurn, ConservesBytesUncut, RingConserves, RanRing}
use Rattle.uart_ring_runs.proofs.Names.{AllSendInLine, AllWithinRingSession}
use Rattle.uart_chip.specs.Conserved.{waiting}
use Rattle.uart_run.specs.Uncut.{IsUncut}
use Rattle.uart_run.proofs.Uncuts.{whole_cut, entered_whole}
use Rattle.uart_ring_runs.proofs.{RingLasts.first_within, RingLasts.ring_lasts_chain, RingLasts.wired_chain, RingPasses.InLine}
use Rattle.uart_ring_runs.proofs.{RingTold.ring_tells, RingArming.ready_in, RingArming.chain_leaves, RingFollows.ring_follow_chain}
use Rattle.uart_ring_runs.proofs.RingGoes.{RingGoes, ring_goes_call, ring_goes_chain, in_session-gone, gone_taken}

-- ---- what is conserved

-- what was written and is left was there or was queued; the same of the bytes cut
cut_sent : (cut : ℕ → ℕ) (written left before more : List ℕ) → written ++ left ≡ before ++ more →
    map cut written ++ map cut left ≡ map cut before ++ map cut more
cut_sent cut written left before more e = sym (map-append cut written left) ∙ (ap (map cut) e ∙ map-append cut before more)

-- nothing is cut
bytes_uncut : (s t : RingState) (links : List RingLink) → IsUncut (under s) →
    (AllKeepOrder links → out (ring_machine t) ++ map (cut_of (ring_machine s).chip) (to_send t) ≡ out (ring_machine s)
    ++ (map (cut_of (ring_machine s).chip) (to_send s) ++ map (cut_of (ring_machine s).chip) (queued links))) →
    (AllTakeInTurn links → gone links ++ (to_take t ++ waiting (ring_machine t)) ≡ to_take s ++ kept (ring_machine s) (ring_machine t)) →
    ConservesBytesUncut s links t
bytes_uncut s t links e sent got =
    let m = ring_machine s in
    let n = ring_machine t in
    let byte : Character → ℕ = λ character. character.byte in
    record {
      sent = λ o. let ordered = sent o in (λ i. out n ++ sym (map-id (to_send t)) i) ∙ ((rw (whole_cut m.chip e) at ordered)
          ∙ (λ i. out m ++ (map-id (to_send s) i ++ map-id (queued links) i)));
      kept = λ turn. got turn ∙ ap (λ (characters : List Character). to_take s ++ map byte (filter (stands n.chip.receiver) characters))
          (entered_whole m n e);
    }

-- what a call sent and what waits after it, cut
in_line_call : (x : Modes) (T N M : Type 0) (s t : RingState) (c : RingCall) (a : RingAnswer) (u : List ℕ) → InSession x (under s) →
    (g : RingGoes x (InLine c a s) T N M s t u) →
    out (ring_machine t) ++ map (cut_of (ring_machine s).chip) (to_send t) ≡
    out (ring_machine s) ++ map (cut_of (ring_machine s).chip) (to_send_with c a (to_send s))
in_line_call x T N M s t c a u w g =
    let m = ring_machine s in
    let cut = λ (bytes : List ℕ). map (cut_of m.chip) bytes in
    let cuts : cut_of m.chip ≡ g.modes.cut = w.stands.modes.cut ∙ sym (same_cut x g.modes g.same) in
    let grows : out (ring_machine t) ≡ out m ++ cut g.written =
    g.passed.passed.went.sends.grows ∙ sym (ap (λ (f : ℕ → ℕ). out m ++ map f g.written) cuts) in
    ap (λ zs. zs ++ cut (to_send t)) grows ∙ (append_assoc (out m) (cut g.written) (cut (to_send t)) ∙
    ap (λ zs. out m ++ zs) (sym (map-append (cut_of m.chip) g.written (to_send t)) ∙ ap cut g.sent))

chain_in_line : (x : Modes) (s t : RingState) (links : List RingLink) → InSession x (under s) → AllWithinRingSession s links →
    RingChain s links t → AllSendInLine links
chain_in_line x s t [] w i h = tt
chain_in_line x s t (link ∷ links) w i h =
    let W : RingState → Type 0 = λ v. InSession x (under v) in
    let begins = subst W (sym h.0) w in
    let j = first_within s t link links i h in
    let g = ring_goes_call x link.before link.after link.call link.answer begins j.here h.1 in
    let goes = in_session-gone x _ _ _ _ link.before link.after _ begins g in (
      in_line_call x _ _ _ link.before link.after link.call link.answer _ begins g,
      chain_in_line g.modes link.after t links goes j.later h.2,
    )

ring_conserves : (x : Modes) (s t : RingState) (links : List RingLink) → InSession x (under s) → AllWithinRingSession s links →
    RingChain s links t → RingConserves s links t
ring_conserves x s t links w within chain =
    let g = ring_goes_chain x s t links w within chain in
    let y = g.modes in
    let went = g.passed.passed.went in
    let m = ring_machine s in
    let n = ring_machine t in
    let cut = λ (bytes : List ℕ). map (cut_of m.chip) bytes in
    let cuts : cut_of m.chip ≡ y.cut = w.stands.modes.cut ∙ sym (same_cut x y g.same) in
    let grows : out n ≡ out m ++ cut g.written = went.sends.grows ∙ sym (ap (λ (f : ℕ → ℕ). out m ++ map f g.written) cuts) in
    let sent : AllKeepOrder links → out n ++ cut (to_send t) ≡ out m ++ (cut (to_send s) ++ cut (queued links)) =
    λ o. ap (λ zs. zs ++ cut (to_send t)) grows ∙ (append_assoc (out m) (cut g.written) (cut (to_send t)) ∙
    ap (λ zs. out m ++ zs) (cut_sent (cut_of m.chip) g.written (to_send t) (to_send s) (queued links) (g.sent o))) in
    let got : AllTakeInTurn links → gone links ++ (to_take t ++ waiting n) ≡ to_take s ++ kept m n =
    λ turn. sym (append_assoc (gone links) (to_take t) (waiting n)) ∙ (ap (λ zs. zs ++ waiting n) (g.received turn) ∙
    (append_assoc (to_take s) g.read (waiting n) ∙
    ap (λ zs. to_take s ++ zs) (received_kept y m n g.made g.written g.read cuts g.passed))) in
    record {
      ready = ready_in y t (in_session-gone x _ _ _ _ s t _ w g);
      wired = λ wired. wired_chain s t links wired chain;
      sent = sent;
      in_line = chain_in_line x s t links w within chain;
      all_taken = gone_taken links;
      no_overflow = went.sends.same_overflows;
      kept = got;
      uncut = λ e. bytes_uncut s t links e sent got;
      tells = ring_tells x s t links w within chain;
      armed = chain_leaves x s t links w within chain;
    }

-- ---- runs

-- a run of all calls, from a sound machine
pub ran_ring : (s t : RingState) (calls : List RingCall) (answers : List RingAnswer) (i : ℕ) → length calls ≤ i → length answers ≤ i →
    IsSound (ring_machine s) → RunOf RingCallStep s (take i calls) (take i answers) t → RanRing s calls answers t
ran_ring s t calls answers i all slots sound run =
    let r = run_whole RingCallStep s t calls answers i all slots run in
    record {
      run = r;
      follows = ring_follow_chain s t r.links sound r.chain;
      sessions = λ front session rest a b parts before within after is.
          let whole = ring_lasts_chain s a front lasts_sound sound before in
          let x = modes_of (under a) in
          ring_conserves x a b session (in_session (under a) is.0 whole) is.1 within;
    }
