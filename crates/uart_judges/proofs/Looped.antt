-- What holds of every machine: it is sound, and MSR shows the inputs, or in loopback the outputs.
use Rattle.std.proofs.Common.{◌≡◌, ℕ, List, [], ◌∷◌, refl}
use Rattle.uart_spec.specs.Access.{Path}
use Rattle.uart_spec.specs.declared.access.Access.{Access}
use Rattle.uart_spec.specs.declared.access.Access.TheVariants.{Read, Write}
use Rattle.uart_events.specs.declared.event.Chip.{Chip}
use Rattle.uart_chip.specs.Modem.{lines_under}
use Rattle.uart_chip.specs.Chip.{ChipState, after_read, after_write}
use Rattle.uart_chip.specs.Machine.{MachineState, MachineStep, at_access}
use Rattle.uart_chip.specs.Sound.{IsSound}
use Rattle.uart_chip.proofs.lasting.Lasting.{LastsInEvents, chip_lasts-before}
use Rattle.uart_chip.proofs.soundness.Builds.{whole_sized}
use Rattle.uart_chip.proofs.soundness.Sounds.{sound_access, sound_step}
use Rattle.uart_judges.specs.Replays.{Seen, Did, Asked, SeenPath, IsBuilt}
use Rattle.uart_chip.proofs.AccessMoves.{ReadMove, takes, read_move, WriteMove, steers, write_lasts}

-- the lines that MSR shows
abbrev pub Looped : ChipState → Type 0
Looped c = c.modem.lines ≡ lines_under c.latches.mcr c.modem.inputs

-- ---- between the accesses

looped_lasts : LastsInEvents Looped
looped_lasts = record { in_tick = λ c h. h; in_arrival = λ byte errors c h. h; in_lines = λ inputs c h. refl }

-- ---- accesses

looped-reads : (offset : ℕ) (c d : ChipState) → ReadMove offset c d → Looped c → Looped d
looped-reads offset c d (takes p q) h = h
looped-reads offset c d _ h = h

looped-writes : (offset value : ℕ) (c d : ChipState) → WriteMove offset value c d → Looped c → Looped d
looped-writes offset value c d (steers p) h = refl
looped-writes offset value c d _ h = h

looped-read : (offset : ℕ) (c : ChipState) → Looped c → Looped (after_read offset c)
looped-read offset c h = looped-reads offset c _ (read_move offset c) h

looped-write : (offset value : ℕ) (c : ChipState) → Looped c → Looped (after_write offset value c)
looped-write offset value c h = write_lasts Looped offset value (looped-writes offset value) c h

-- ---- machines

pub record IsMachine (m : MachineState) : Type 0 where
  pub sound : IsSound m
  pub looped : Looped m.chip

pub machine_access : (m : MachineState) → IsMachine m → IsMachine (at_access m)
machine_access m w = record { sound = sound_access m w.sound; looped = chip_lasts-before Looped looped_lasts m.ahead m.chip w.looped }

pub machine_step : (m n : MachineState) (access : Access) → IsMachine m → MachineStep m access n → IsMachine n
machine_step m n (Read offset value) w s = record {
  sound = sound_step m n (Read offset value) w.sound s;
  looped = rw s.0 (looped-read offset (at_access m).chip (machine_access m w).looped);
}
machine_step m n (Write offset value) w s = record {
  sound = sound_step m n (Write offset value) w.sound s;
  looped = rw s (looped-write offset value (at_access m).chip (machine_access m w).looped);
}

pub machine_path : (m n : MachineState) (accesses : List Access) → IsMachine m → Path MachineStep m accesses n → IsMachine n
machine_path m n [] w p = rw p w
machine_path m n (access ∷ accesses) w p = machine_path p.0 n accesses (machine_step m p.0 access w p.1) p.2

pub machine_seen : (m n : MachineState) (seen : List Seen) → IsMachine m → SeenPath m seen n → IsMachine n
machine_seen m n [] w p = rw p w
machine_seen m n (Did access ∷ seen) w p = machine_seen p.0 n seen (machine_step m p.0 access w p.1) p.2
machine_seen m n (Asked offset ∷ seen) w p =
    machine_seen p.0 n seen (machine_step m p.0 (Read offset p.1.0) w p.1.1) p.2

pub machine_built : (model : Chip) (m : MachineState) → IsBuilt model m → IsMachine m
machine_built model m b =
    rw b.built (record {
      sound = (whole_sized model b.size b.char_ticks b.capacity b.cuts b.events b.accepted).sound;
      looped = refl;
    })
