-- What no access and no event changes of a chip stays at both ends of a link.
use Rattle.uart_link.proofs.Names.{◌≡◌, ◌⊎◌, inl, inr, List, sym, subst, Path, Access, ChipState, MachineState, MachineStep, chain_keeps}
use Rattle.uart_link.proofs.Names.{RingCall, RingAnswer, RingState, ring_machine, Moment, Side, Left, Right, Link, settled, at_end, other}
use Rattle.uart_link.proofs.Names.{CabledCallStep, EndStep, LinkCallStep, Step, LinkChain}
use Rattle.uart_run.proofs.Sessions.{Lasts}
use Rattle.uart_ring_runs.specs.declared.call.RingCall.TheVariants as call

-- a call made accesses, or let all moments happen
abbrev pub Called : RingState → RingState → Type 0
Called s t =
    ((made : List Access) × Path MachineStep (ring_machine s) made (ring_machine t)) ⊎ (ring_machine t ≡ settled (ring_machine s))

pub called : (s t : RingState) (c : RingCall) (a : RingAnswer) → CabledCallStep s c a t → Called s t
called s t call.Next a h = inr h.passes.machine
called s t (call.Driver c) a h = absurd h
called s t other a h = inl (h.did.list, h.did.path)

module _ (Q : ChipState → Type 0) (k : Lasts (λ (m : MachineState). Q m.chip)) where
  abbrev Has : RingState → Type 0
  Has s = Q (ring_machine s).chip

  lasts_called : (s t : RingState) → Has s → Called s t → Has t
  lasts_called s t w (inl h) = k.path h.0 (ring_machine s) (ring_machine t) w h.1
  lasts_called s t w (inr h) = subst (λ (m : MachineState). Q m.chip) (sym h) (k.mark (ring_machine s) w)

  lasts_end : (moments : List Moment) (there s t : RingState) (c : RingCall) (a : RingAnswer) → Has s → EndStep moments there s c a t →
      Has t
  lasts_end moments there s t c a w h =
      let begins = subst (λ (m : MachineState). Q m.chip) (sym h.arranges.machine) (k.mark (ring_machine s) w) in
      lasts_called h.begins t begins (called h.begins t c a h.called)

  lasts_step : (end side : Side) (a b : Link) (moments : List Moment) (c : RingCall) (answer : RingAnswer) → Has (at_end end a) →
      EndStep moments (at_end (other side) a) (at_end side a) c answer (at_end side b) →
      at_end (other side) b ≡ at_end (other side) a → Has (at_end end b)
  lasts_step Left Left a b moments c answer w h same = lasts_end moments a.right a.left b.left c answer w h
  lasts_step Right Right a b moments c answer w h same = lasts_end moments a.left a.right b.right c answer w h
  lasts_step Left Right a b moments c answer w h same = subst Has (sym same) w
  lasts_step Right Left a b moments c answer w h same = subst Has (sym same) w

  pub lasts_chain : (end : Side) (a b : Link) (steps : List Step) → Has (at_end end a) → LinkChain a steps b → Has (at_end end b)
  lasts_chain end a b steps w chain =
      chain_keeps LinkCallStep (λ (o : Link). Has (at_end end o))
      (λ a b c answer w h. lasts_step end c.side a b c.moments.items c.call answer w h.0 h.1) a b steps w chain
