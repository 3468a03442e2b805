-- Handling interrupts so that a controller that detects edges does not miss the next one.
use Rattle.std.specs.Prelude.{ℕ, Bool, true}
use Rattle.uart_16550.specs.Driver.{Saving}
use Rattle.uart_16550.specs.Status as status
use Rattle.uart_ring.specs.Ring.{RingDoing, OnDriver, Stays, RingNext, unchanged}
use Rattle.uart_ring.specs.Service.{SendsOnIf, ServesUpTo}
use Rattle.uart_ring.specs.declared.ring.service.HandleEnd.{HandleEnd}
use Rattle.uart_ring.specs.declared.ring.service.HandleEnd.TheVariants.{Idle, Unknown, Limit}
use Rattle.uart_ring.specs.declared.ring.service.Handled.{Handled}

-- `retrigger`: IER is read, and written with 0 and then with what was read
abbrev pub Retriggers : RingDoing
Retriggers = OnDriver (Saving status.Retriggers) unchanged

-- the interrupts are triggered again, unless ISR has shown that none is pending; and before that bytes are sent, if a
-- line status has shown room and no data came behind it
abbrev pub SendsAndRetriggers : (room : Bool) → RingDoing
SendsAndRetriggers room = RingNext (SendsOnIf room) Retriggers

abbrev pub RetriggersUnlessIdle : (room : Bool) → HandleEnd → RingDoing
RetriggersUnlessIdle room Idle = Stays
RetriggersUnlessIdle room Unknown = SendsAndRetriggers room
RetriggersUnlessIdle room Limit = SendsAndRetriggers room

-- `handle`: as many interrupts as are pending are served, but no more than the limit; if a line status shows room,
-- bytes that wait are sent behind the data that comes next. Then, unless ISR has shown that none is pending, IER is
-- read, and written with 0 and with what was read: what is left is triggered again
abbrev pub Handles : (limit : ℕ) → Handled → RingDoing
Handles limit handled f l after =
    (room : Bool)
    × RingNext (ServesUpTo true limit handled room) (RetriggersUnlessIdle room handled.end) f l after
