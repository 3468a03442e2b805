use Rattle.std.proofs.Common.{◌≡◌, ◌∙◌, ap, sym, ℕ, false, ◌&&◌}
use Rattle.uart_chip.specs.Transmitter.{TransmitterState}
use Rattle.uart_chip.specs.Chip.{ChipState}
use Rattle.uart_chip.specs.Data.{without_schedule}
use Rattle.uart_chip.specs.Snapshot.{latches_of}
use Rattle.uart_chip.proofs.Snapshots.{same_parts}
use Rattle.uart_chip.proofs.chip.Uart.data.Goals as goal

pub returns : goal.returns
returns g c =
    let ticks : c.data.result.char_ticks ≡ c.self.inside.transmitter.char_ticks =
    ap (λ (t : TransmitterState). t.char_ticks) c.data.ensures in
    let here : ChipState =
    record {
      model = c.self.inside.model;
      latches = latches_of c.self.inside.latches;
      fifo = c.self.inside.fifo;
      transmitter = c.self.inside.transmitter;
      receiver = c.self.inside.receiver;
      modem = c.self.inside.modem;
      cuts = c.self.inside.cuts;
      auto_flow = g.E.Capabilities.auto_flow c.self.inside.capabilities;
      has_size_switch = g.E.Capabilities.size_switch c.self.inside.capabilities && (g.B.Fifo.is_resizable && g.C.Fifo.is_resizable);
    } in
    rw (← c.self.view_is)
    (same_parts here _ _ _ false false c.data.ensures
    (c.data-2.ensures c.data.result.char_ticks ∙ ap (λ (n : ℕ). without_schedule n c.self.inside.receiver) ticks)
    c.data-3.ensures (sym (ap (λ (d : ChipState). d.auto_flow) c.self.view_is ∙ c.requires.flow))
    (sym (ap (λ (d : ChipState). d.has_size_switch) c.self.view_is ∙ c.requires.switch)))
