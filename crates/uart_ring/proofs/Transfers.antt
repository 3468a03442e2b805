-- Bytes between the rings and the driver.
use Rattle.std.proofs.Common.{◌≡◌, ◌<◌, ◌+◌, ℕ, zero, suc, true, false, ◌==◌, List, [], ◌∷◌, ◌++◌, sym, ◌∙◌, ap, subst, arith}
use Rattle.std.proofs.Common.{length, take, drop, min, not, refl, length-take}
use Rattle.std.proofs.lemmas.Bool.{false≢true}
use Rattle.std.proofs.lemmas.Bool.Decides.{nat_tests}
use Rattle.std.proofs.lemmas.List.{length-take-le, take_at, take_min}
use Rattle.uart_spec.specs.declared.access.Access.{Access}
use Rattle.uart_spec.specs.FifoSize.{characters}
use Rattle.uart_spec.specs.declared.registers.interrupt_enable.TheConstants.IER
use Rattle.uart_16550.specs.Driver.{Did, Doing, Fields, fields, Next, Saving}
use Rattle.uart_16550.specs.Transmit.{Sends}
use Rattle.uart_16550.specs.Status.{Enables, Disables}
use Rattle.uart_16550.specs.declared.driver.Uart16550.{Uart16550}
use Rattle.uart_16550.proofs.Doings.{did_made, did_among, did_then}
use Rattle.uart_ring.specs.Queue.{Queue, queue}
use Rattle.uart_ring.specs.Ring.{RingDid, ring_fields, free, sendable, without_sent, without_sent_bytes, with_received, with_driver}
use Rattle.uart_ring.specs.Ring.{IfAny, without_taken}
use Rattle.uart_ring.specs.Lossless.{Implies}
use Rattle.uart_ring.specs.Transmit.{PumpsSo, SendsSo, ArmsIfLeft}
use Rattle.uart_ring.specs.Receive.{ReceivesToEnd, PausesIfFull, FillsReceiveRing, EndsPause, TakesBytes}
use Rattle.uart_ring.specs.declared.ring.Uart16550Ring.{Uart16550Ring}
use Rattle.uart_ring.proofs.RingDoings.{ring_did, ring_then, ring_among, ring_from}

-- ---- from the transmit ring

-- the first of some bytes, once they were copied into so many slots
pub first_copied : (size : ℕ) (bytes slots old : List ℕ) (count : ℕ) → count ≡ min size (length bytes) →
    slots ≡ take count bytes ++ drop count old →
    take count slots ≡ take size bytes
first_copied size bytes slots old count is_count is_slots =
    let long : length (take count bytes) ≡ count = length-take-le count bytes (omega (arith, is_count)) in
    ap (λ xs. take count xs) is_slots ∙ (take_at (take count bytes) (drop count old) count long ∙
    (ap (λ n. take n bytes) is_count ∙ take_min size bytes))

-- nothing that may be sent is left, or something is
pub arms_none : (left : List ℕ) → false ≡ not (length left == 0) → (f : Fields) (l : List Access) (after : Fields) →
    Disables IER.THR_EMPTY.0 f l after → ArmsIfLeft left f l after
arms_none [] e f l after does = does
arms_none (byte ∷ bytes) e f l after does =
    let some : (length (byte ∷ bytes) == 0) ≡ false = grind (arith, nat_tests) in
    absurd (false≢true (e ∙ ap not some))

pub arms_some : (left : List ℕ) → true ≡ not (length left == 0) → (f : Fields) (l : List Access) (after : Fields) →
    Enables IER.THR_EMPTY.0 f l after → ArmsIfLeft left f l after
arms_some [] e f l after does = absurd (false≢true (sym e))
arms_some (byte ∷ bytes) e f l after does = does

-- a pump: some of the burst were sent, the others still wait, and THR_EMPTY is enabled if they may be sent
pub pumped : {B : Type 0} {step : B → Access → B → Type 0} (G : Doing) (sent : ℕ) (a mid : Uart16550Ring B) (v u : Uart16550 B) →
    mid ≡ without_sent_bytes sent (record a { uart = v }) →
    ((f : Fields) (l : List Access) (after : Fields) → G f l after → ArmsIfLeft (sendable (ring_fields mid)) f l after) →
    Did step (Saving (Sends (sendable (ring_fields a)) sent)) a.uart v → Did step G mid.uart u →
    RingDid step (PumpsSo sent) a (record mid { uart = u })
pumped {B} {step} G sent a mid v u gone arms sends changes =
    let D : Uart16550 B → Type 0 = λ x. Did step G x u in
    let p = did_then sends (subst D (ap (λ (r : Uart16550Ring B). r.uart) gone) changes) in
    let bytes = sendable (ring_fields a) in
    let left = sendable (without_sent sent (ring_fields a)) in
    let is_left : sendable (ring_fields mid) ≡ left = ap (λ (r : Uart16550Ring B). sendable (ring_fields r)) gone in
    ring_among (λ l t. t)
    (ring_did {G = Next (Saving (Sends bytes sent)) (ArmsIfLeft left)} (without_sent sent) a
    (record mid { uart = u })
    (did_among (λ f l after t. record {
      front = t.front;
      back = t.back;
      mid = t.mid;
      whole = t.whole;
      first = t.first;
      second = let A : List ℕ → Type 0 = λ xs. ArmsIfLeft xs t.mid t.back after in subst A is_left (arms t.mid t.back after t.second);
    }) p)
    (ap (λ (r : Uart16550Ring B). ring_fields (record r { uart = u })) gone))

-- so that a driver did this, and the rest is as it was
pub pumped_so : {B : Type 0} {step : B → Access → B → Type 0} (sent : ℕ) (a mid b : Uart16550Ring B) (v : Uart16550 B) →
    mid ≡ without_sent_bytes sent (record a { uart = v }) → Did step (Saving (Sends (sendable (ring_fields a)) sent)) a.uart v →
    Did step (ArmsIfLeft (sendable (ring_fields mid))) mid.uart b.uart → b ≡ record mid { uart = b.uart } →
    RingDid step (PumpsSo sent) a b
pumped_so {B} {step} sent a mid b v gone sends arms kept =
    let P : Uart16550Ring B → Type 0 = λ r. RingDid step (PumpsSo sent) a r in
    subst P (sym kept) (pumped (ArmsIfLeft (sendable (ring_fields mid))) sent a mid v b.uart gone (λ f l after t. t) sends arms)

-- some were sent
pub some_sent : (sent : ℕ) → 0 < sent → Implies (PumpsSo sent) (SendsSo sent)
some_sent zero some f l after t = absurd (omega (arith, some))
some_sent (suc n) some f l after t = t

-- ---- to the receive ring

-- bytes were received to the end of the receive ring
pub filled : {B : Type 0} {step : B → Access → B → Type 0} (slots count unlooked : ℕ) (a : Uart16550Ring B) (u : Uart16550 B)
    (more : Queue) (b : Uart16550Ring B) → slots ≡ min (characters a.uart.fifo_size) (free a.receive) →
    ReceivesToEnd step slots count a.receive more a.uart u → unlooked ≡ min a.unlooked (length a.receive.items) + count →
    RingDid step PausesIfFull (record a { uart = u; receive = more; unlooked = unlooked }) b → RingDid step FillsReceiveRing a b
filled slots count unlooked a u more b is_slots r is_unlooked pauses =
    let fresh : unlooked ≡ min a.unlooked (length a.receive.items) + length r.bytes =
    is_unlooked ∙ ap (λ n. min a.unlooked (length a.receive.items) + n) r.counted in
    ring_among (λ l t. (r.bytes, t))
    (ring_then (ring_did (with_received r.bytes) a (record a { uart = u; receive = more; unlooked = unlooked })
    (did_made (rw is_slots at r.received))
    (ap (λ (q : Queue). with_driver (fields u) (record (ring_fields a) { receive = q; unlooked = unlooked })) r.appended ∙
    ap (λ n. with_driver (fields u) (record (with_received r.bytes (ring_fields a)) { unlooked = n })) fresh)) pauses)

-- ---- from the receive ring

-- bytes were taken from it into slots, and a pause ends
pub took : {B : Type 0} {step : B → Access → B → Type 0} (size count : ℕ) (slots old : List ℕ) (a : Uart16550Ring B) (left : Queue)
    (b : Uart16550Ring B) → count ≡ min size (length a.receive.items) → slots ≡ take count a.receive.items ++ drop count old →
    left ≡ queue (drop count a.receive.items) a.receive.capacity → RingDid step (IfAny count EndsPause) (record a { receive = left }) b →
    RingDid step (TakesBytes size (take count slots)) a b
took {B} {step} size count slots old a left b is_count is_slots is_left p =
    let items = a.receive.items in
    let bytes : take count slots ≡ take size items = first_copied size items slots old count is_count is_slots in
    let long : length (take count slots) ≡ count = ap length bytes ∙ (length-take size items ∙ sym is_count) in
    ring_from (record a { receive = left }) refl (λ l t.
    let F : Queue → Type 0 = λ q. IfAny count EndsPause (record (ring_fields a) { receive = q }) l (ring_fields b) in
    let N : ℕ → Type 0 = λ n. IfAny n EndsPause (without_taken n (ring_fields a)) l (ring_fields b) in
    (bytes, subst N (sym long) (subst F is_left t))) p
