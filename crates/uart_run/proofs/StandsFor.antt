-- Calls of the driver that are no calls of a run make the lists of those for which they stand.
use Rattle.uart_run.proofs.Names.{◌≡◌, ◌≤◌, ℕ, Bool, true, false, List, [], length, take, min, Result, Ok, Err, inl, inr, refl, sym, arith}
use Rattle.uart_run.proofs.Names.{append-nil, length-take, take-take, characters, Access, Config, ByteReceiveError, InvalidDivisorError}
use Rattle.uart_run.proofs.Names.{Received, FifoSize, SendsBurst, Did, Doing, fields, settings_of, SetsFrame, Inits, InitsWith}
use Rattle.uart_run.proofs.Names.{SetsFrameWhenIdle, Settings, TryReceiveWithErrors, ReceivesWithErrors, Sends, burst_size, did_among}
use Rattle.uart_run.proofs.Names.{did_made, Call, Answer, frame_answer, frame_when_idle_answer, init_answer, MachineStep, at_least_16}
use Rattle.uart_run.proofs.Names.{Driver, StandsFor, found_in, ReceivesOne, SendsParts, SendsFront, WritesBytes, ReadsControl, StandsIf}
use Rattle.uart_run.proofs.Names.{ChecksInit, ChecksInitWith, ChecksFrame, ChecksFrameWhenIdle}
use Rattle.uart_16550.specs.Checked.{IfComputable}
use Rattle.uart_call.specs.declared.call.Call.TheVariants as call

-- ---- calls that send and receive

one_slot : (s : Settings) (l : List Access) (result : Result Received ByteReceiveError) → TryReceiveWithErrors result s l →
    ReceivesWithErrors 1 (found_in result) s l
one_slot s l (Ok received) h =
    inl (refl, record { front = l; back = []; whole = sym (append-nil l); first = h; second = record { is = refl } })
one_slot s l (Err e) h =
    inr (omega arith, record { front = []; back = l; whole = refl; first = record { is = refl }; second = h })

pub receives_one : ReceivesOne
receives_one d e result made = record {
  outcome = found_in result;
  answered = refl;
  did = did_among (λ f l after h. (one_slot (settings_of f) l result h.0, h.1)) (did_made made);
}

pub sends_parts : SendsParts
sends_parts d e bytes count made = record { outcome = count; answered = refl; did = did_made made }

-- a burst of a size that is no larger than the driver's is one of the driver, of as many bytes
front_sends : (s : Settings) (l : List Access) (size : FifoSize) (bytes : List ℕ) (k : ℕ) → characters size ≤ characters s.size →
    SendsBurst size bytes k s l → Sends (take (characters size) bytes) k s l
front_sends s l size bytes k fits sends = go s.fifo refl sends
  where
    n : ℕ
    n = characters size

    long : length (take n bytes) ≡ min n (length bytes)
    long = length-take n bytes

    go : (fifo : Bool) → s.fifo ≡ fifo → SendsBurst size bytes k s l → Sends (take n bytes) k s l
    go fifo is (inl (none, nothing, made)) = inl (omega (arith, long, none), nothing, made)
    go fifo is (inr (inl (some, nothing, miss))) =
        let least = at_least_16 size in inr (inl (omega (arith, long, some, least), nothing, miss))
    go true is (inr (inr (some, count, burst))) =
        let least = at_least_16 size in
        let whole : k ≡ min (length bytes) n = rw is at count in
        let counts : k ≡ burst_size s (take n bytes) = rw (is, long) (omega (arith, whole, fits)) in
        let few : k ≤ n = omega (arith, whole) in
        inr (inr (omega (arith, long, some, least), counts, rw (take-take k n bytes few) burst))
    go false is (inr (inr (some, count, burst))) =
        let least = at_least_16 size in
        let whole : k ≡ min (length bytes) 1 = rw is at count in
        let counts : k ≡ burst_size s (take n bytes) = rw (is, long) (omega (arith, whole, least)) in
        let few : k ≤ n = omega (arith, whole, least) in
        inr (inr (omega (arith, long, some, least), counts, rw (take-take k n bytes few) burst))

pub sends_front : SendsFront
sends_front d e size bytes count fits made =
    let did = did_made made in
    record {
      outcome = count;
      answered = refl;
      did = record {
        list = did.list;
        path = did.path;
        does = (front_sends (settings_of (fields d)) did.list size bytes count fits did.does.0, did.does.1);
      };
    }

pub writes_bytes : WritesBytes
writes_bytes s t text spare result few made = record {
  outcome = result;
  answered = refl;
  did = did_among (λ f l after h. ((few, h.0), h.1)) (did_made made);
}

-- ---- a call that reads

pub reads_control : ReadsControl
reads_control d e gone made =
    let did = did_made made in
    let asks = did.does.0 in (
      asks.answer,
      asks.shows,
      record {
        outcome = asks.answer;
        answered = refl;
        did = record { list = did.list; path = did.path; does = (record { is = asks.is }, did.does.1) };
      },
    )

-- ---- calls that take each configuration

stands_if : {R : Type 0} (config : Config) (refused : InvalidDivisorError → R) (result : R) (G : Doing) (c : Call) (a : Answer)
    (d e : Driver) → (Did MachineStep G d e → StandsFor d c a e) → Did MachineStep (IfComputable config refused result G) d e →
    StandsIf config d c a e
stands_if config refused result G c a d e stands did = go did.does
  where
    go : IfComputable config refused result G (fields d) did.list (fields e) → StandsIf config d c a e
    go (inl (computable, does)) = inl (computable, stands (record { list = did.list; path = did.path; does = does }))
    go (inr (cause, is, same, none, after)) = inr (record { machine = rw none at did.path; driver = after })

pub checks_init : ChecksInit
checks_init d e config result did =
    stands_if config _ result (Inits config result) (call.Init config) (init_answer result) d e
    (λ done. record { outcome = result; answered = refl; did = done }) did

pub checks_init_with : ChecksInitWith
checks_init_with d e config setup result did =
    stands_if config _ result (InitsWith setup config result) (call.InitWith config setup) (init_answer result) d e
    (λ done. record { outcome = result; answered = refl; did = done }) did

pub checks_frame : ChecksFrame
checks_frame d e config result did =
    stands_if config _ result (SetsFrame config result) (call.SetFrame config) (frame_answer result) d e
    (λ done. record { outcome = result; answered = refl; did = done }) did

pub checks_frame_when_idle : ChecksFrameWhenIdle
checks_frame_when_idle d e config result did =
    stands_if config _ result (SetsFrameWhenIdle config result) (call.SetFrameWhenIdle config) (frame_when_idle_answer result) d e
    (λ done. record { outcome = result; answered = refl; did = done }) did
