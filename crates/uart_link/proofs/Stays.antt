-- What stays as it is at both ends, whatever is called.
use Rattle.uart_link.proofs.Names.{◌≡◌, List, sym, ◌∙◌, refl, settings_of, Modes, ChipState, cuts_path, cuts_mark, ring_fields}
use Rattle.uart_link.proofs.Names.{ring_machine, Side, Left, Right, Link, at_end, Step, LinkChain, StaysAt}
use Rattle.uart_link.proofs.{Lasting.lasts_chain, LinkSteps.link_chain, Stretches.Going, Stretches.going_after, Stretches.in_end}
use Rattle.uart_link.proofs.{Stretches.same_rooms}

pub stays : (x y : Modes) (end : Side) (steps : List Step) (a b : Link) → Going x y a → LinkChain a steps b →
    StaysAt (at_end end a) (at_end end b)
stays x y end steps a b g chain =
    let rooms = same_rooms x y end steps a b g chain in
    let before = (in_end x y end a g).1.session.stands.sound.chip.sizes in
    let after = (in_end x y end b later).1.session.stands.sound.chip.sizes in
    let cuts = (ring_machine (at_end end a)).chip.cuts in
    record {
      chip = record {
        sizes = record { transmitter = rooms.size; receiver = after ∙ (rooms.size ∙ sym before) };
        fifo = fifo_at end;
        flow = rooms.flow;
        cuts = lasts_chain (λ (c : ChipState). c.cuts ≡ cuts) (record { path = cuts_path cuts; mark = cuts_mark cuts }) end a b steps refl
            chain;
        char_ticks = rooms.char_ticks;
        capacity = rooms.capacity;
        arrivals = rooms.marks;
      };
      driver = driver_at end;
    }
  where
    later : Going x y b
    later = going_after x y steps a b g chain

    fifo_at : (end : Side) → (ring_machine (at_end end b)).chip.fifo ≡ (ring_machine (at_end end a)).chip.fifo
    fifo_at Left = later.left.session.stands.modes.fifo ∙ sym g.left.session.stands.modes.fifo
    fifo_at Right = later.right.session.stands.modes.fifo ∙ sym g.right.session.stands.modes.fifo

    driver_at : (end : Side) → settings_of (ring_fields (at_end end b)).driver ≡ settings_of (ring_fields (at_end end a)).driver
    driver_at Left = (link_chain x y a b steps g.left g.right g.joined chain).left.settings
    driver_at Right = (link_chain x y a b steps g.left g.right g.joined chain).right.settings
