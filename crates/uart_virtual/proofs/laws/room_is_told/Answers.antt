use Rattle.uart_virtual.proofs.Rooms.{room_told, room_told_at_once, room_told_once, refusal_leaves_no_room, restored_is_told}
use Rattle.uart_virtual.proofs.laws.room_is_told.Goals as goal

pub returns-clause-room : goal.returns-clause-room
returns-clause-room c = room_told

pub returns-clause-at_once : goal.returns-clause-at_once
returns-clause-at_once c = room_told_at_once

pub returns-clause-told_once : goal.returns-clause-told_once
returns-clause-told_once c = room_told_once

pub returns-clause-refusal : goal.returns-clause-refusal
returns-clause-refusal c = refusal_leaves_no_room

pub returns-clause-restored : goal.returns-clause-restored
returns-clause-restored c = restored_is_told
