-- A port that is made or restored is sound, and stays so.
use Rattle.std.proofs.Common.{ℕ, true, ◌&&◌, ◌==◌, List, [], ◌∷◌, take, refl}
use Rattle.uart_c.specs.Port.{IsAcceptedCall, MadePortsAreSound, RestoredPortsAreSound, SoundPortsStaySound}
use Rattle.uart_chip.proofs.AccessMoves.{both_if}
use Rattle.uart_c.proofs.Stays.{of_its_size}
use Rattle.uart_c.specs.Saved.{IsLiveChip}
use Rattle.uart_chip.specs.Chip.{ChipState, after_write, arrive_live, with_size}
use Rattle.uart_chip.specs.Chip as chip
use Rattle.uart_live.proofs.Lives.{live-arrival, live-fresh, live-lines, live-read, live-take, live-ticks, live-write}
use Rattle.uart_live.proofs.Quick.{live-pass}
use Rattle.uart_live.specs.Live.{IsLive}
use Rattle.uart_live.specs.declared.fixed.TheConstants.{WIRE_ROOM}
use Rattle.uart_spec.specs.declared.registers.offsets.TheConstants as offsets
use Rattle.uart_spec.specs.declared.setup.FifoSize.{FifoSize}
use Rattle.uart_virtual.proofs.Tells.{told_holds}
use Rattle.uart_virtual.proofs.Times.{paced-happen, still_settle}
use Rattle.uart_virtual.specs.Port.{PortCall, Read, Write, Receive, ReceiveOne, SetLines, TakeOutput}
use Rattle.uart_virtual.specs.Port.{holds_less}
use Rattle.uart_virtual.specs.Port.{happen, settle, settle_ticks, accepted, arrive_all, kind_of, stays_up, renewed, untold}

-- ---- what happens in a call leaves a live chip

live-all : {size : FifoSize} (bytes : List ℕ) (c : ChipState) → IsLive size c → IsLive size (arrive_all bytes c)
live-all [] c w = w
live-all (byte ∷ bytes) c w = live-all bytes (arrive_live byte 0 c) (live-arrival byte 0 c refl w)

live-happen : {size : FifoSize} (call : PortCall) (c : ChipState) → IsAcceptedCall call → IsLive size c → IsLive size (happen call c)
live-happen (Read offset) c a w = live-read offset c w
live-happen {size} (Write offset value) c a w =
    let d : ChipState = after_write offset value c in
    let live : IsLive size d = live-write offset value c a w in
    both_if (IsLive size) _ _ ((offset == offsets.FCR) && holds_less c d) (live-pass d live) live
live-happen (Receive bytes) c a w = live-all (take (accepted bytes c) bytes) c w
live-happen (ReceiveOne byte errors) c a w = live-arrival byte errors c a w
live-happen (SetLines inputs) c a w = live-lines inputs c a w
live-happen (TakeOutput count) c a w = live-take count c w

live-settle : {size : FifoSize} (c : ChipState) → IsLive size c → IsLiveChip (settle c)
live-settle c w = of_its_size (settle c) (live-ticks (settle_ticks c.transmitter.size) c w)

-- ---- ports

pub stay : SoundPortsStaySound
stay call p a w =
    let c : ChipState = happen call p.chip in
    let live : IsLive p.chip.transmitter.size c = live-happen call p.chip a w.live in
    record {
      live = live-settle c live;
      port = record {
        told = told_holds (kind_of call p.chip) (stays_up call c) (settle c) p.told;
        still = still_settle c live.whole.sound.chip live.flow (paced-happen call p.chip w.port.still.paced);
      };
    }

pub restored : RestoredPortsAreSound
restored c live still = record { live = live; port = record { told = told_holds renewed true c untold; still = still } }

pub made : MadePortsAreSound
made size model =
    let c : ChipState = with_size size (chip.fresh model 1 WIRE_ROOM 0) in
    let live : IsLive size c = live-fresh model size 1 WIRE_ROOM refl in
    restored (settle c) (live-settle c live)
    (still_settle c live.whole.sound.chip live.flow (record { takes = refl; room = refl }))
