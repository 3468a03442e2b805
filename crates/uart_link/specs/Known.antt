-- What holds of every chip at a cable, whatever has happened to it: it is sound and wired, and no event that is known
-- of its schedule is a Mark.
use Rattle.std.specs.Prelude.{◌≢◌, ℕ, List, ◌++◌}
use Rattle.std.specs.List.{AllByRecursion}
use Rattle.uart_events.specs.declared.event.Event.{Event}
use Rattle.uart_events.specs.declared.event.Event.TheVariants.{Mark}
use Rattle.uart_chip.specs.Chip.{ChipState}
use Rattle.uart_chip.specs.Sound.{IsWhole}
use Rattle.uart_run.specs.Wired.{IsWiredChip}
use Rattle.uart_link.specs.Cable.{unknown}

-- the event is no Mark; nor is any of these
abbrev pub IsUnmarked : Event → Type 0
IsUnmarked event = event ≢ Mark

abbrev pub AllUnmarked : List Event → Type 0
AllUnmarked events = AllByRecursion IsUnmarked events

-- the chip is sound with these events ahead, none of which is a Mark, and behind them so many characters that may come;
-- and it is wired
pub record IsKnown (c : ChipState) (known : List Event) (count : ℕ) : Type 0 where
  pub whole : IsWhole (record { chip = c; ahead = known ++ unknown count })
  pub unmarked : AllUnmarked known
  pub wired : IsWiredChip c
