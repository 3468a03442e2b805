-- Every call of a link leaves both machines sound, and what is proved of runs.
use Rattle.uart_link.proofs.Names.{◌≡◌, inl, inr, ℕ, ◌≤◌, List, length, take, sym, subst, MachineState, IsSound, sound_mark, sound_path}
use Rattle.uart_link.proofs.Names.{RunOf, IsWired, IsWiredChip, chain_keeps, run_whole, lasts_wired, RingCall, RingAnswer, RingState}
use Rattle.uart_link.proofs.Names.{ring_machine, under, Moment, Side, Left, Right, Link, settled, at_end, other, EndStep, LinkCallStep}
use Rattle.uart_link.proofs.Names.{RanLink}
use Rattle.uart_link.specs.declared.call.LinkCall.{LinkCall}
use Rattle.uart_link.proofs.{EndActs.sound_settled, EndActs.sound_arranged, Lasting.Called, Lasting.called, Lasting.lasts_chain}
use Rattle.uart_link.proofs.{LinkLaws.link_conserves}

sound_called : (s t : RingState) → IsSound (ring_machine s) → Called s t → IsSound (ring_machine t)
sound_called s t w (inl h) = sound_path h.0 (ring_machine s) (ring_machine t) w h.1
sound_called s t w (inr h) =
    subst (λ (m : MachineState). IsSound m) (sym h) (sound_settled (ring_machine s) (sound_mark (ring_machine s) w).chip)

sound_end : (moments : List Moment) (there s t : RingState) (c : RingCall) (a : RingAnswer) → IsSound (ring_machine s) →
    EndStep moments there s c a t → IsSound (ring_machine t)
sound_end moments there s t c a w h =
    let m = ring_machine s in
    let ready = sound_arranged moments (ring_machine there).chip (settled m).chip (sound_mark m w).chip in
    sound_called h.begins t (subst (λ (o : MachineState). IsSound o) (sym h.arranges.machine) ready) (called h.begins t c a h.called)

-- both machines are sound
record BothSound (a : Link) : Type 0 where
  pub left : IsSound (ring_machine a.left)
  pub right : IsSound (ring_machine a.right)

sound_step : (a b : Link) (side : Side) (moments : List Moment) (c : RingCall) (answer : RingAnswer) → BothSound a →
    EndStep moments (at_end (other side) a) (at_end side a) c answer (at_end side b) →
    at_end (other side) b ≡ at_end (other side) a → BothSound b
sound_step a b Left moments c answer w h same = record {
  left = sound_end moments a.right a.left b.left c answer w.left h;
  right = subst (λ (s : RingState). IsSound (ring_machine s)) (sym same) w.right;
}
sound_step a b Right moments c answer w h same = record {
  left = subst (λ (s : RingState). IsSound (ring_machine s)) (sym same) w.left;
  right = sound_end moments a.left a.right b.right c answer w.right h;
}

sound_call : (a b : Link) (c : LinkCall) (answer : RingAnswer) → BothSound a → LinkCallStep a c answer b → BothSound b
sound_call a b c answer w h = sound_step a b c.side c.moments.items c.call answer w h.0 h.1

-- a run of all calls, from sound and wired machines
pub ran_link : (s t : Link) (calls : List LinkCall) (answers : List RingAnswer) (i : ℕ) → length calls ≤ i → length answers ≤ i →
    IsSound (ring_machine s.left) → IsSound (ring_machine s.right) → IsWired (under s.left) → IsWired (under s.right) →
    RunOf LinkCallStep s (take i calls) (take i answers) t →
    RanLink s calls answers t
ran_link s t calls answers i all slots left right wired_left wired_right run = record {
  run = run_whole LinkCallStep s t calls answers i all slots run;
  parts = λ front part rest a b is before within after joined ready uncut.
      let sound = chain_keeps LinkCallStep BothSound sound_call s a front (record { left = left; right = right }) before in
      link_conserves a b part sound.left sound.right (lasts_chain IsWiredChip lasts_wired Left s a front wired_left before)
      (lasts_chain IsWiredChip lasts_wired Right s a front wired_right before) joined ready uncut within;
}
