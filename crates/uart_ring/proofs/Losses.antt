-- That ring calls lose no bytes, line errors or changes of the modem lines.
use Rattle.std.proofs.Common.{◌≡◌, ◌≤◌, ◌==◌, ℕ, zero, suc, Bool, true, false, min, MatchBool, List, [], ◌∷◌, ◌++◌, length, take}
use Rattle.std.proofs.Common.{drop, append_assoc, append-nil, take-append-drop, length-take, refl, arith, sym, ◌∙◌, ap, inl, inr}
use Rattle.std.proofs.Common.{Option, Some, None, Result, bit_and, bit_or, nat_lt}
use Rattle.std.specs.Prelude.{MatchOption}
use Rattle.std.proofs.lemmas.List.{drop_min, drop_all}
use Rattle.std.specs.Prelude.{option_to_list}
use lib.Bits.{or_zero_r}
use Rattle.uart_spec.specs.Access.{saved_lsr, saved_msr}
use Rattle.uart_spec.specs.declared.access.Access.{Access}
use Rattle.uart_spec.specs.declared.access.Access.TheVariants.{Read, Write}
use Rattle.uart_spec.specs.declared.errors.ByteSendError.TheVariants.{NoCapacity, RemoteNotClearToSend}
use Rattle.uart_spec.specs.declared.registers.interrupt_enable.TheConstants.IER
use Rattle.uart_spec.specs.declared.registers.interrupt_type.InterruptType.{InterruptType}
use Rattle.uart_spec.specs.declared.registers.interrupt_type.InterruptType.TheVariants.{ReceiverLineStatus, ReceivedDataReady}
use Rattle.uart_spec.specs.declared.registers.interrupt_type.InterruptType.TheVariants.{ReceptionTimeout, TransmitterHoldingRegisterEmpty}
use Rattle.uart_spec.specs.declared.registers.interrupt_type.InterruptType.TheVariants.{ModemStatus, DmaReceptionEndOfTransfer}
use Rattle.uart_spec.specs.declared.registers.interrupt_type.InterruptType.TheVariants.{DmaTransmissionEndOfTransfer}
use Rattle.uart_spec.specs.declared.registers.line_status.TheConstants.LSR
use Rattle.uart_spec.specs.declared.registers.modem_status.TheConstants.MSR
use Rattle.uart_spec.specs.declared.registers.offsets.TheConstants as offsets
use Rattle.uart_16550.specs.Grammar.{Settings, Then, Asks, InOrder}
use Rattle.uart_16550.specs.Driver.{Fields, Saving, saving, settings_of}
use Rattle.uart_16550.specs.Receive.{Receives, Hit}
use Rattle.uart_16550.specs.Transmit.{Sends, SendHit, SendMiss, LinesAllow, data_writes}
use Rattle.uart_16550.specs.Status.{Enables}
use Rattle.uart_16550.proofs.Paths.{or_assoc}
use Rattle.uart_ring.specs.Ring.{RingFields, OnDriver, Stays, IfAny, with_driver, with_queued, with_received}
use Rattle.uart_ring.specs.Ring.{with_paused, without_sent, without_taken, unchanged, is_full, waiting, sendable, RingSets, with_urgent}
use Rattle.uart_ring.specs.Ring.{with_hold, with_low_mark, with_low, with_rounds, with_stuck, restarted}
use Rattle.uart_ring.specs.Transmit.{ArmsIfLeft, Pumps, Queues, ResumesTransmit, Holds, Releases, QueuesUrgent, ClearsTransmit}
use Rattle.uart_ring.specs.Transmit.{SetsLowMark, TakesLow}
use Rattle.uart_ring.specs.Receive.{PausesIfFull, FillsReceiveRing, EndsPause, TakesBytes, ClearsReceive}
use Rattle.uart_ring.specs.Receive.{write_if_other, rts_at, MakesRtsIfAny, AdjustsRts}
use Rattle.uart_ring.specs.declared.ring.receive.ReceiveMarks.{ReceiveMarks}
use Rattle.uart_spec.specs.Bits.{has}
use Rattle.uart_spec.specs.declared.registers.modem_control.TheConstants.MCR
use Rattle.uart_16550.specs.Frame.{switched, unlooped}
use Rattle.uart_ring.specs.Ring.{free}
use Rattle.uart_ring.specs.Storm.{counts_as, has_moved, round_limit}
use Rattle.uart_ring.specs.Storm.{every_bit, TurnsOff, ShowsStuck, LooksOnceMore, CountsUnfinished, CountsRound, HandlesRound}
use Rattle.uart_ring.specs.Storm.{StaysStuck, TriesToHandle, Restarts, not_paused}
use Rattle.uart_ring.specs.declared.ring.storm.StuckError.{StuckError}
use Rattle.uart_ring.proofs.Sending.{waiting_sent, cleared_left}
use Rattle.uart_ring.specs.Status.{NotesLine, NotesModem, TakesLine, TakesModem}
use Rattle.uart_ring.specs.Service.{ShowsInterrupt, ShowsNone, ServesInterrupt, ServesOne, Stops}
use Rattle.uart_ring.specs.Service.{ServesUpTo, Services, SendsOnIf, ServesData, ServesTimes}
use Rattle.uart_ring.specs.Handle.{Retriggers, RetriggersUnlessIdle, Handles, SendsAndRetriggers}
use Rattle.uart_ring.specs.declared.ring.service.TheConstants.{MAX_INTERRUPTS}
use Rattle.uart_ring.specs.declared.ring.service.HandleEnd.{HandleEnd}
use Rattle.uart_ring.specs.declared.ring.service.HandleEnd.TheVariants.{Idle, Unknown, Limit}
use Rattle.uart_ring.specs.declared.ring.service.Handled.{Handled}
use Rattle.uart_ring.proofs.RegisterBits.{more_saved, now_noted, now_told, saved_lsr-append, saved_msr-append, saved_lsr-within}
use Rattle.uart_ring.proofs.RegisterBits.{saved_msr-within}
use Rattle.uart_ring.proofs.Pausing.{ChangesIer, Pausing, joined_with, rid_of}
use Rattle.uart_ring.specs.Lossless.{data_written, data_read, untold_line, untold_modem, LosesOnly, LosesNothing, Implies}
use Rattle.uart_ring.specs.Lossless.{overtaken_by, without_dropped}

-- ---- lists of accesses

pub data_written-append : (l m : List Access) → data_written (l ++ m) ≡ data_written l ++ data_written m
data_written-append [] m = refl
data_written-append (Read offset answer ∷ l) m = data_written-append l m
data_written-append (Write offset value ∷ l) m = rw (data_written-append l m) (sym (append_assoc _ (data_written l) (data_written m)))

pub data_read-append : (l m : List Access) → data_read (l ++ m) ≡ data_read l ++ data_read m
data_read-append [] m = refl
data_read-append (Read offset answer ∷ l) m = rw (data_read-append l m) (sym (append_assoc _ (data_read l) (data_read m)))
data_read-append (Write offset value ∷ l) m = data_read-append l m

-- a list that wrote these bytes to DATA and read those
pub record Moves (written read : List ℕ) (l : List Access) : Type 0 where
  pub written_is : data_written l ≡ written
  pub read_is : data_read l ≡ read

moves-then : (l m : List Access) (ws vs rs us : List ℕ) → Moves ws rs l → Moves vs us m → Moves (ws ++ vs) (rs ++ us) (l ++ m)
moves-then l m ws vs rs us a b = record {
  written_is = data_written-append l m ∙ (λ i. a.written_is i ++ b.written_is i);
  read_is = data_read-append l m ∙ (λ i. a.read_is i ++ b.read_is i);
}

pub nothing : Moves [] [] []
nothing = record { written_is = refl; read_is = refl }

asks_moves : (register bits : ℕ) (outcome : Bool) (s : Settings) (l : List Access) → (register == offsets.DATA) ≡ false →
    Asks register bits outcome s l → Moves [] [] l
asks_moves register bits outcome s l other t = rw t.is (record { written_is = refl; read_is = rw other refl })

lines_move : (allowed : Bool) (s : Settings) (l : List Access) → LinesAllow allowed s l → Moves [] [] l
lines_move allowed s l (inl t) = asks_moves _ _ _ s l refl t.1
lines_move allowed s l (inr t) = rw t.whole (moves-then t.front t.back [] [] [] [] (asks_moves _ _ _ s t.front refl t.first)
    (asks_moves _ _ _ s t.back refl t.second))

hit_moves : (s : Settings) (l : List Access) → SendHit s l → Moves [] [] l
hit_moves s l t = go s.checks t
  where
    go : (checks : Bool) → MatchBool checks (Then (Asks offsets.LSR LSR.THR_EMPTY.0 true) (LinesAllow true) s l)
        (Asks offsets.LSR LSR.THR_EMPTY.0 true s l) → Moves [] [] l
    go true t = rw t.whole (moves-then t.front t.back [] [] [] [] (asks_moves _ _ _ s t.front refl t.first)
        (lines_move true s t.back t.second))
    go false t = asks_moves _ _ _ s l refl t

miss_moves : (s : Settings) (l : List Access) → SendMiss s l → Moves [] [] l
miss_moves s l (NoCapacity, t) = asks_moves _ _ _ s l refl t
miss_moves s l (RemoteNotClearToSend, t) = go s.checks t
  where
    go : (checks : Bool) → MatchBool checks (Then (Asks offsets.LSR LSR.THR_EMPTY.0 true) (LinesAllow false) s l) ⊥ → Moves [] [] l
    go true t = rw t.whole (moves-then t.front t.back [] [] [] [] (asks_moves _ _ _ s t.front refl t.first)
        (lines_move false s t.back t.second))
    go false t = absurd t

writes_move : (bytes : List ℕ) → Moves bytes [] (data_writes bytes)
writes_move [] = nothing
writes_move (byte ∷ bytes) = let rest = writes_move bytes in record {
  written_is = ap (λ xs. byte ∷ xs) rest.written_is;
  read_is =
      rest.read_is;
}

pub sends_move : (bytes : List ℕ) (sent : ℕ) (s : Settings) (l : List Access) → Sends bytes sent s l → Moves (take sent bytes) [] l
sends_move bytes sent s l (inl (none, unsent, is)) = rw (unsent, is) nothing
sends_move bytes sent s l (inr (inl (some, unsent, t))) = rw unsent (miss_moves s l t)
sends_move bytes sent s l (inr (inr (some, size, t))) =
    rw (t.whole, t.second.is) (moves-then t.front (data_writes (take sent bytes)) [] (take sent bytes) [] [] (hit_moves s t.front t.first)
    (writes_move (take sent bytes)))

hits_move : (bytes : List ℕ) (s : Settings) (l : List Access) → InOrder Hit bytes s l → Moves [] bytes l
hits_move [] s l t = rw t.is nothing
hits_move (byte ∷ bytes) s l t =
    let one : Moves [] (byte ∷ []) t.front = rw (t.first.whole, t.first.first.is, t.first.second.is)
    (record { written_is = refl; read_is = refl }) in
    rw t.whole (moves-then t.front t.back [] [] (byte ∷ []) bytes one (hits_move bytes s t.back t.second))

pub receives_move : (room : ℕ) (bytes : List ℕ) (s : Settings) (l : List Access) → Receives room bytes s l → Moves [] bytes l
receives_move room bytes s l (inl (all, t)) = hits_move bytes s l t
receives_move room bytes s l (inr (fewer, t)) =
    let both = moves-then t.front t.back [] [] bytes [] (hits_move bytes s t.front t.first) (asks_moves _ _ _ s t.back refl t.second) in
    rw t.whole (record { written_is = both.written_is; read_is = both.read_is ∙ append-nil bytes })

-- ---- what the driver does

-- it made such a list, and saved what that showed
pub record Saves (written read : List ℕ) (f : Fields) (l : List Access) (after : Fields) : Type 0 where
  pub moves : Moves written read l
  pub settings : settings_of after ≡ settings_of f
  pub lsr : after.lsr ≡ bit_or f.lsr (saved_lsr l)
  pub msr : after.msr ≡ bit_or f.msr (saved_msr l)

pub saving_saves : (written read : List ℕ) (f : Fields) (l : List Access) (after : Fields) → Moves written read l → after ≡ saving f l →
    Saves written read f l after
saving_saves written read f l after moves is = record {
  moves = moves;
  settings = ap settings_of is;
  lsr = ap (λ g. g.lsr) is;
  msr =
      ap (λ g. g.msr) is;
}

saves-then : (f mid after : Fields) (l m : List Access) (ws vs rs us : List ℕ) → Saves ws rs f l mid → Saves vs us mid m after →
    Saves (ws ++ vs) (rs ++ us) f (l ++ m) after
saves-then f mid after l m ws vs rs us a b = record {
  moves = moves-then l m ws vs rs us a.moves b.moves;
  settings = b.settings ∙ a.settings;
  lsr = b.lsr ∙ (ap (λ n. bit_or n (saved_lsr m)) a.lsr ∙ (or_assoc f.lsr (saved_lsr l) (saved_lsr m)
      ∙ ap (bit_or f.lsr) (sym (saved_lsr-append l m))));
  msr = b.msr ∙ (ap (λ n. bit_or n (saved_msr m)) a.msr ∙ (or_assoc f.msr (saved_msr l) (saved_msr m)
      ∙ ap (bit_or f.msr) (sym (saved_msr-append l m))));
}

pub changes_saves : (change : ℕ → ℕ) (f : Fields) (l : List Access) (after : Fields) → ChangesIer change f l after → Saves [] [] f l after
changes_saves change f l after (ier, is, changed) = rw is (record {
  moves = record { written_is = refl; read_is = refl };
  settings = ap settings_of changed;
  lsr = ap (λ g. g.lsr) changed ∙ sym (or_zero_r f.lsr);
  msr = ap (λ g. g.msr) changed ∙ sym (or_zero_r f.msr);
})

arms_saves : (left : List ℕ) (f : Fields) (l : List Access) (after : Fields) → ArmsIfLeft left f l after → Saves [] [] f l after
arms_saves [] f l after t = changes_saves (rid_of IER.THR_EMPTY.0) f l after t
arms_saves (byte ∷ bytes) f l after t = changes_saves (joined_with IER.THR_EMPTY.0) f l after t

-- ---- what the rings do

-- what was to be sent was written or is still to be sent, what was read is to be taken, and what was seen is to be returned
pub record Carries (f : RingFields) (l : List Access) (after : RingFields) : Type 0 where
  pub sent : waiting f ≡ data_written l ++ waiting after
  pub received : after.receive.items ≡ f.receive.items ++ data_read l
  pub line : untold_line after ≡ bit_or (untold_line f) (saved_lsr l)
  pub modem : untold_modem after ≡ bit_or (untold_modem f) (saved_msr l)
  pub rooms : (after.transmit.capacity ≡ f.transmit.capacity) × (after.receive.capacity ≡ f.receive.capacity)
  pub settings : settings_of after.driver ≡ settings_of f.driver

pub carries-then : (f mid after : RingFields) (l m : List Access) → Carries f l mid → Carries mid m after → Carries f (l ++ m) after
carries-then f mid after l m a b = record {
  sent = a.sent ∙ (ap (λ xs. data_written l ++ xs) b.sent ∙ (sym (append_assoc (data_written l) (data_written m) (waiting after))
      ∙ ap (λ xs. xs ++ waiting after) (sym (data_written-append l m))));
  received = b.received ∙ (ap (λ xs. xs ++ data_read m) a.received ∙ (append_assoc f.receive.items (data_read l) (data_read m)
      ∙ ap (λ xs. f.receive.items ++ xs) (sym (data_read-append l m))));
  line = b.line ∙ (ap (λ n. bit_or n (saved_lsr m)) a.line ∙ (or_assoc (untold_line f) (saved_lsr l) (saved_lsr m)
      ∙ ap (bit_or (untold_line f)) (sym (saved_lsr-append l m))));
  modem = b.modem ∙ (ap (λ n. bit_or n (saved_msr m)) a.modem ∙ (or_assoc (untold_modem f) (saved_msr l) (saved_msr m)
      ∙ ap (bit_or (untold_modem f)) (sym (saved_msr-append l m))));
  rooms = (b.rooms.0 ∙ a.rooms.0, b.rooms.1 ∙ a.rooms.1);
  settings = b.settings ∙ a.settings;
}

pub stays_carries : Implies Stays Carries
stays_carries f l after (is, same) = rw (is, same) (record {
  sent = refl;
  received = sym (append-nil f.receive.items);
  line = sym (or_zero_r (untold_line f));
  modem = sym (or_zero_r (untold_modem f));
  rooms = (refl, refl);
  settings = refl;
})

-- the driver did so, and the other fields became these
carries_driver : (f e : RingFields) (l : List Access) (after : RingFields) (written read : List ℕ) →
    Saves written read f.driver l after.driver → after ≡ with_driver after.driver e →
    waiting f ≡ written ++ waiting e → e.receive.items ≡ f.receive.items ++ read → e.line ≡ f.line → e.modem ≡ f.modem →
    e.transmit.capacity ≡ f.transmit.capacity → e.receive.capacity ≡ f.receive.capacity → Carries f l after
carries_driver f e l after written read s same sent received line modem tx_room rx_room = record {
  sent = sent ∙ (λ i. sym s.moves.written_is i ++ waiting (same' i));
  received = ap (λ (g : RingFields). g.receive.items) same ∙ (received ∙ ap (λ xs. f.receive.items ++ xs) (sym s.moves.read_is));
  line = ap (λ n. bit_and (bit_or n after.driver.lsr) LSR.LINE_ERRORS.0) (ap (λ (g : RingFields). g.line) same ∙ line)
      ∙ (ap (λ n. bit_and (bit_or f.line n) LSR.LINE_ERRORS.0) s.lsr ∙ more_saved f.line f.driver.lsr (saved_lsr l) LSR.LINE_ERRORS.0
      (saved_lsr-within l));
  modem = ap (λ n. bit_and (bit_or n after.driver.msr) MSR.CHANGES.0) (ap (λ (g : RingFields). g.modem) same ∙ modem)
      ∙ (ap (λ n. bit_and (bit_or f.modem n) MSR.CHANGES.0) s.msr ∙ more_saved f.modem f.driver.msr (saved_msr l) MSR.CHANGES.0
      (saved_msr-within l));
  rooms = (ap (λ (g : RingFields). g.transmit.capacity) same ∙ tx_room, ap (λ (g : RingFields). g.receive.capacity) same ∙ rx_room);
  settings = s.settings;
}
  where
    same' : with_driver after.driver e ≡ after
    same' = sym same

-- the same if nothing moves in the rings
pub carries_still : (f e : RingFields) (l : List Access) (after : RingFields) → Saves [] [] f.driver l after.driver →
    after ≡ with_driver after.driver e →
    e.urgent ≡ f.urgent → e.transmit ≡ f.transmit → e.receive ≡ f.receive → e.line ≡ f.line → e.modem ≡ f.modem → Carries f l after
carries_still f e l after s same urgent transmit receive line modem =
    carries_driver f e l after [] [] s same (λ i. option_to_list (sym urgent i) ++ (sym transmit i).items)
    (ap (λ b. b.items) receive ∙ sym (append-nil f.receive.items)) line modem (ap (λ b. b.capacity) transmit)
    (ap (λ b. b.capacity) receive)

-- ---- each piece

sent_within : (bytes : List ℕ) (sent : ℕ) (s : Settings) (l : List Access) → Sends bytes sent s l → sent ≤ length bytes
sent_within bytes sent s l (inl t) = omega (arith, t.1)
sent_within bytes sent s l (inr (inl t)) = omega (arith, t.1)
sent_within bytes sent s l (inr (inr t)) = omega (arith, t.1)

pumps_carry : Implies Pumps Carries
pumps_carry f l after (sent, (t, same)) =
    let bytes = sendable f in
    let s = settings_of f.driver in
    let within : sent ≤ length bytes = sent_within bytes sent s t.front t.first.0 in
    let first = saving_saves _ _ f.driver t.front t.mid (sends_move bytes sent s t.front t.first.0) t.first.1 in
    let both = saves-then f.driver t.mid after.driver t.front t.back _ _ _ _ first
    (arms_saves (sendable (without_sent sent f)) t.mid t.back after.driver t.second) in
    let split : waiting f ≡ (take sent bytes ++ []) ++ waiting (without_sent sent f) =
    sym (waiting_sent f sent within) ∙ ap (λ xs. xs ++ waiting (without_sent sent f)) (sym (append-nil (take sent bytes))) in
    rw t.whole (carries_driver f (without_sent sent f) (t.front ++ t.back) after _ _ both same split
    (sym (append-nil f.receive.items)) refl refl refl refl)

pausing_carries : (change : ℕ → ℕ) (paused when : Bool) → Implies (Pausing change paused when) Carries
pausing_carries change paused true f l after t =
    carries_still f (with_paused paused f) l after (changes_saves change f.driver l after.driver t.0) t.1 refl refl refl refl refl
pausing_carries change paused false f l after t = stays_carries f l after t

pauses_carry : Implies PausesIfFull Carries
pauses_carry f l after t = pausing_carries (rid_of IER.DATA_READY.0) true (is_full f.receive) f l after t

ends_pause_carries : Implies EndsPause Carries
ends_pause_carries f l after t = pausing_carries (joined_with IER.DATA_READY.0) false f.is_paused f l after t

pub received_carries : (room : ℕ) (bytes : List ℕ) → Implies (OnDriver (Saving (Receives room bytes)) (with_received bytes)) Carries
received_carries room bytes f l after ((fits, saved), same) =
    let moves = receives_move room bytes (settings_of f.driver) l fits in
    let saves = saving_saves [] bytes f.driver l after.driver moves saved in
    carries_driver f (with_received bytes f) l after [] bytes saves same refl refl refl refl refl refl

pub fills_carry : Implies FillsReceiveRing Carries
fills_carry f l after (bytes, t) =
    rw t.whole (carries-then f t.mid after t.front t.back (received_carries _ bytes f t.front t.mid t.first)
    (pauses_carry t.mid t.back after t.second))

-- a status was read, and no byte moved
read_carries : (f : RingFields) (l : List Access) (after : RingFields) → after.urgent ≡ f.urgent → after.transmit ≡ f.transmit →
    after.receive ≡ f.receive →
    Moves [] [] l → settings_of after.driver ≡ settings_of f.driver → untold_line after ≡ bit_or (untold_line f) (saved_lsr l) →
    untold_modem after ≡ bit_or (untold_modem f) (saved_msr l) → Carries f l after
read_carries f l after urgent transmit receive moves settings line modem = record {
  sent = rw moves.written_is (λ i. option_to_list (sym urgent i) ++ (sym transmit i).items);
  received = rw moves.read_is (ap (λ b. b.items) receive ∙ sym (append-nil f.receive.items));
  line = line;
  modem = modem;
  rooms = (ap (λ b. b.capacity) transmit, ap (λ b. b.capacity) receive);
  settings = settings;
}

notes_line_carries : (status : ℕ) → Implies (NotesLine status) Carries
notes_line_carries status f l after ((read, is, shown, changed), same) =
    rw is (read_carries f _ after (ap (λ (g : RingFields). g.urgent) same) (ap (λ (g : RingFields). g.transmit) same)
    (ap (λ (g : RingFields). g.receive) same)
    (record { written_is = refl; read_is = refl }) (ap settings_of changed)
    (rw (ap (λ (g : RingFields). g.line) same, ap (λ (g : Fields). g.lsr) changed, shown)
    (now_noted f.line f.driver.lsr read LSR.LINE_ERRORS.0))
    (rw (ap (λ (g : RingFields). g.modem) same, ap (λ (g : Fields). g.msr) changed) (sym (or_zero_r (untold_modem f)))))

notes_modem_carries : Implies NotesModem Carries
notes_modem_carries f l after (status, ((read, is, shown, changed), same)) =
    rw is (read_carries f _ after (ap (λ (g : RingFields). g.urgent) same) (ap (λ (g : RingFields). g.transmit) same)
    (ap (λ (g : RingFields). g.receive) same)
    (record { written_is = refl; read_is = refl }) (ap settings_of changed)
    (rw (ap (λ (g : RingFields). g.line) same, ap (λ (g : Fields). g.lsr) changed) (sym (or_zero_r (untold_line f))))
    (rw (ap (λ (g : RingFields). g.modem) same, ap (λ (g : Fields). g.msr) changed, shown)
    (now_noted f.modem f.driver.msr read MSR.CHANGES.0)))

pub sends_on_carries : (room : Bool) → Implies (SendsOnIf room) Carries
sends_on_carries true f l after (zero, ((sends, saved), same)) =
    let moves = sends_move (sendable f) 0 (settings_of f.driver) l sends in
    carries_still f f l after (saving_saves [] [] f.driver l after.driver moves saved) same refl refl refl refl refl
sends_on_carries true f l after (suc n, t) = pumps_carry f l after (suc n, t)
sends_on_carries false f l after t = stays_carries f l after t

serves_data_carries : (room : Bool) → Implies (ServesData room) Carries
serves_data_carries room f l after t =
    rw t.whole (carries-then f t.mid after t.front t.back (fills_carry f t.front t.mid t.first) (sends_on_carries room t.mid
    t.back after t.second))

serves_carry : (sends room left : Bool) (interrupt : InterruptType) → Implies (ServesInterrupt sends room left interrupt) Carries
serves_carry sends room left ReceiverLineStatus f l after (status, is, t) = notes_line_carries status f l after t
serves_carry sends room left ReceivedDataReady f l after (is, t) = serves_data_carries room f l after t
serves_carry sends room left ReceptionTimeout f l after (is, t) = serves_data_carries room f l after t
serves_carry sends room left TransmitterHoldingRegisterEmpty f l after (is, t) = pumps_carry f l after t
serves_carry sends room left ModemStatus f l after (is, t) = notes_modem_carries f l after t
serves_carry sends room left DmaReceptionEndOfTransfer f l after (is, t) = stays_carries f l after t
serves_carry sends room left DmaTransmissionEndOfTransfer f l after (is, t) = stays_carries f l after t

pub shows_carry : (interrupt : Option InterruptType) → Implies (OnDriver (ShowsInterrupt interrupt) unchanged) Carries
shows_carry interrupt f l after ((isr, shown, t), same) =
    let moves : Moves [] [] l = rw t.0.is (record { written_is = refl; read_is = refl }) in
    carries_still f f l after (saving_saves [] [] f.driver l after.driver moves t.1) same refl refl refl refl refl

pub serves_one_carries : (sends room left : Bool) → Implies (ServesOne sends room left) Carries
serves_one_carries sends room left f l after (interrupt, t) =
    rw t.whole (carries-then f t.mid after t.front t.back (shows_carry _ f t.front t.mid t.first)
    (serves_carry sends room left interrupt t.mid t.back after t.second))

pub times_carry : (sends : Bool) (n : ℕ) (room left : Bool) → Implies (ServesTimes sends n room left) Carries
times_carry sends zero room left f l after (is, t) = stays_carries f l after t
times_carry sends (suc n) room left f l after (next, t) =
    rw t.whole (carries-then f t.mid after t.front t.back (serves_one_carries sends room next f t.front t.mid t.first)
    (times_carry sends n next left t.mid t.back after t.second))

-- a read of ISR that shows none
pub shows_none : (idle : Bool) → Implies (OnDriver (ShowsNone idle) unchanged) (OnDriver (ShowsInterrupt None) unchanged)
shows_none idle f l after ((isr, shown, bit, t), same) = ((isr, shown, t), same)

pub retriggers_carry : Implies Retriggers Carries
retriggers_carry f l after (((ier, is), saved), same) =
    let moves : Moves [] [] l = rw is (record { written_is = refl; read_is = refl }) in
    carries_still f f l after (saving_saves [] [] f.driver l after.driver moves saved) same refl refl refl refl refl

-- RTS is made so by accesses to MCR alone
pub rts_moves : (shown on : Bool) (mcr value : ℕ) →
    Moves [] [] (Read offsets.MCR mcr ∷ write_if_other shown on (Write offsets.MCR value))
rts_moves true true mcr value = record { written_is = refl; read_is = refl }
rts_moves true false mcr value = record { written_is = refl; read_is = refl }
rts_moves false true mcr value = record { written_is = refl; read_is = refl }
rts_moves false false mcr value = record { written_is = refl; read_is = refl }

makes_rts_carries : (wanted : Option Bool) → Implies (MakesRtsIfAny wanted) Carries
makes_rts_carries None f l after t = stays_carries f l after t
makes_rts_carries (Some on) f l after (((mcr, is), saved), same) =
    let moves : Moves [] [] l = rw is (rts_moves (has mcr MCR.RTS.0) on mcr (unlooped (switched on MCR.RTS.0 mcr))) in
    carries_still f f l after (saving_saves [] [] f.driver l after.driver moves saved) same refl refl refl refl refl

stops_carry : (end : HandleEnd) → Implies (Stops end) Carries
stops_carry Idle f l after t = shows_carry None f l after (shows_none true f l after t)
stops_carry Unknown f l after t = shows_carry None f l after (shows_none false f l after t)
stops_carry Limit f l after t = stays_carries f l after t

pub serves_up_to_carries : (sends : Bool) (limit : ℕ) (handled : Handled) (room : Bool) →
    Implies (ServesUpTo sends limit handled room) Carries
serves_up_to_carries sends limit handled room f l after (within, t) =
    rw t.whole (carries-then f t.mid after t.front t.back (times_carry sends handled.served false room f t.front t.mid t.first)
    (stops_carry handled.end t.mid t.back after t.second))

sends_and_retriggers_carry : (room : Bool) → Implies (SendsAndRetriggers room) Carries
sends_and_retriggers_carry room f l after t =
    rw t.whole (carries-then f t.mid after t.front t.back (sends_on_carries room f t.front t.mid t.first)
    (retriggers_carry t.mid t.back after t.second))

unless_idle_carry : (room : Bool) (end : HandleEnd) → Implies (RetriggersUnlessIdle room end) Carries
unless_idle_carry room Idle f l after t = stays_carries f l after t
unless_idle_carry room Unknown f l after t = sends_and_retriggers_carry room f l after t
unless_idle_carry room Limit f l after t = sends_and_retriggers_carry room f l after t

-- ---- each call

-- a call that accepts no bytes, returns no bytes and no status
pub carried : Implies Carries (LosesNothing [] [] 0 0)
carried f l after c = record {
  sent = sym c.sent ∙ sym (append-nil (waiting f));
  received = c.received;
  line_told = c.line;
  modem_told = c.modem;
  rooms = c.rooms;
  settings = c.settings;
}

pub services_lose_nothing : (count : ℕ) → Implies (Services count) (LosesNothing [] [] 0 0)
services_lose_nothing count f l after (end, room, t) =
    carried f l after (serves_up_to_carries false MAX_INTERRUPTS (record { served = count; end = end }) room f l after t)

pub retriggers_lose_nothing : Implies Retriggers (LosesNothing [] [] 0 0)
retriggers_lose_nothing f l after t = carried f l after (retriggers_carry f l after t)

pub adjusts_lose_nothing : (marks : ReceiveMarks) → Implies (AdjustsRts marks) (LosesNothing [] [] 0 0)
adjusts_lose_nothing marks f l after t = carried f l after (makes_rts_carries (rts_at marks (free f.receive)) f l after t)

pub handles_carry : (limit : ℕ) (handled : Handled) → Implies (Handles limit handled) Carries
handles_carry limit handled f l after (room, t) =
    rw t.whole (carries-then f t.mid after t.front t.back (serves_up_to_carries true limit handled room f t.front t.mid t.first)
    (unless_idle_carry room handled.end t.mid t.back after t.second))

pub handles_lose_nothing : (limit : ℕ) (handled : Handled) → Implies (Handles limit handled) (LosesNothing [] [] 0 0)
handles_lose_nothing limit handled f l after t = carried f l after (handles_carry limit handled f l after t)

any_pumps_carry : (count : ℕ) → Implies (IfAny count Pumps) Carries
any_pumps_carry zero f l after t = stays_carries f l after t
any_pumps_carry (suc n) f l after t = pumps_carry f l after t

pub queues_lose_nothing : (bytes : List ℕ) (count : ℕ) → Implies (Queues bytes count) (LosesNothing (take count bytes) [] 0 0)
queues_lose_nothing bytes count f l after (is, t) =
    let c = any_pumps_carry count (with_queued (take count bytes) f) l after t in
    record {
      sent = sym c.sent ∙ sym (append_assoc (option_to_list f.urgent) f.transmit.items (take count bytes));
      received = c.received;
      line_told = c.line;
      modem_told = c.modem;
      rooms = c.rooms;
      settings = c.settings;
    }

any_ends_pause_carries : (count : ℕ) → Implies (IfAny count EndsPause) Carries
any_ends_pause_carries zero f l after t = stays_carries f l after t
any_ends_pause_carries (suc n) f l after t = ends_pause_carries f l after t

pub resumes_carry : Implies ResumesTransmit Carries
resumes_carry f l after t = any_pumps_carry (length (waiting f)) f l after t

pub resumes_lose_nothing : Implies ResumesTransmit (LosesNothing [] [] 0 0)
resumes_lose_nothing f l after t = carried f l after (resumes_carry f l after t)

-- what changes fields that no byte and no status is in
sets_carry : (change : RingFields → RingFields) (f : RingFields) (l : List Access) (after : RingFields) → RingSets change f l after →
    waiting (change f) ≡ waiting f → (change f).receive ≡ f.receive → (change f).line ≡ f.line → (change f).modem ≡ f.modem →
    (change f).transmit.capacity ≡ f.transmit.capacity → (change f).driver ≡ f.driver → Carries f l after
sets_carry change f l after (is, changed) waits receive line modem capacity driver = rw (is, changed) (record {
  sent = sym waits;
  received = ap (λ b. b.items) receive ∙ sym (append-nil f.receive.items);
  line = (λ i. bit_and (bit_or (line i) (driver i).lsr) LSR.LINE_ERRORS.0) ∙ sym (or_zero_r (untold_line f));
  modem = (λ i. bit_and (bit_or (modem i) (driver i).msr) MSR.CHANGES.0) ∙ sym (or_zero_r (untold_modem f));
  rooms = (capacity, ap (λ b. b.capacity) receive);
  settings = ap settings_of driver;
})

-- what is carried from other fields, with the same bytes and statuses
from_same : (f g : RingFields) (l : List Access) (after : RingFields) → waiting g ≡ waiting f → g.receive ≡ f.receive → g.line ≡ f.line →
    g.modem ≡ f.modem → g.transmit.capacity ≡ f.transmit.capacity → g.driver ≡ f.driver → Carries g l after → Carries f l after
from_same f g l after waits receive line modem capacity driver c = record {
  sent = sym waits ∙ c.sent;
  received = c.received ∙ ap (λ b. b.items ++ data_read l) receive;
  line = c.line ∙ (λ i. bit_or (bit_and (bit_or (line i) (driver i).lsr) LSR.LINE_ERRORS.0) (saved_lsr l));
  modem = c.modem ∙ (λ i. bit_or (bit_and (bit_or (modem i) (driver i).msr) MSR.CHANGES.0) (saved_msr l));
  rooms = (c.rooms.0 ∙ capacity, c.rooms.1 ∙ ap (λ b. b.capacity) receive);
  settings = c.settings ∙ ap settings_of driver;
}

pub holds_lose_nothing : Implies Holds (LosesNothing [] [] 0 0)
holds_lose_nothing f l after t = carried f l after (sets_carry (with_hold true) f l after t refl refl refl refl refl refl)

pub releases_carry : Implies Releases Carries
releases_carry f l after t =
    from_same f (with_hold false f) l after refl refl refl refl refl refl (resumes_carry (with_hold false f) l after t)

pub releases_lose_nothing : Implies Releases (LosesNothing [] [] 0 0)
releases_lose_nothing f l after t = carried f l after (releases_carry f l after t)

pub sets_low_mark_loses_nothing : (mark : ℕ) → Implies (SetsLowMark mark) (LosesNothing [] [] 0 0)
sets_low_mark_loses_nothing mark f l after t = carried f l after (sets_carry (with_low_mark mark) f l after t refl refl refl refl refl refl)

pub takes_low_loses_nothing : (low : Bool) → Implies (TakesLow low) (LosesNothing [] [] 0 0)
takes_low_loses_nothing low f l after (told, t) = carried f l after (sets_carry (with_low false) f l after t refl refl refl refl refl refl)

-- the urgent byte goes before all that waits, and the one that it replaces was there
after_urgent : (urgent : Option ℕ) (items : List ℕ) → items ≡ drop (length (option_to_list urgent)) (option_to_list urgent ++ items)
after_urgent None items = refl
after_urgent (Some byte) items = refl

pub queues_urgent_loses_only : (byte : ℕ) (replaced : Option ℕ) →
    Implies (QueuesUrgent byte replaced) (LosesOnly (overtaken_by byte replaced) [] 0 0)
queues_urgent_loses_only byte replaced f l after (was, t) =
    let c = pumps_carry (with_urgent (Some byte) f) l after t in
    record {
      sent = sym c.sent ∙ ap (λ xs. byte ∷ xs) (rw was (after_urgent f.urgent f.transmit.items));
      received = c.received;
      line_told = c.line;
      modem_told = c.modem;
      rooms = c.rooms;
      settings = c.settings;
    }

pub clears_transmit_loses_only : (count : ℕ) → Implies (ClearsTransmit count) (LosesOnly (without_dropped count) [] 0 0)
clears_transmit_loses_only count f l after (is_count, (is, changed)) = rw (is, changed) (record {
  sent = rw is_count (cleared_left f.urgent f.transmit.items);
  received = sym (append-nil f.receive.items);
  line_told = sym (or_zero_r (untold_line f));
  modem_told = sym (or_zero_r (untold_modem f));
  rooms = (refl, refl);
  settings = refl;
})

-- the first of a list, and what is left without as many
taken_first : (slots : ℕ) (items bytes : List ℕ) → bytes ≡ take slots items → bytes ++ drop (length bytes) items ≡ items
taken_first slots items bytes is =
    let size : length bytes ≡ min slots (length items) = ap length is ∙ length-take slots items in
    let rest : drop (length bytes) items ≡ drop slots items = ap (λ n. drop n items) size ∙ drop_min slots items in
    (λ i. is i ++ rest i) ∙ take-append-drop slots items

pub takes_lose_nothing : (slots : ℕ) (bytes : List ℕ) → Implies (TakesBytes slots bytes) (LosesNothing [] bytes 0 0)
takes_lose_nothing slots bytes f l after (is, t) =
    let c = any_ends_pause_carries (length bytes) (without_taken (length bytes) f) l after t in
    let items = f.receive.items in
    record {
      sent = sym c.sent ∙ sym (append-nil (waiting f));
      received = ap (λ xs. bytes ++ xs) c.received ∙ (sym (append_assoc bytes (drop (length bytes) items) (data_read l))
          ∙ ap (λ xs. xs ++ data_read l) (taken_first slots items bytes is));
      line_told = c.line;
      modem_told = c.modem;
      rooms = c.rooms;
      settings = c.settings;
    }

pub takes_line_loses_nothing : (line : ℕ) → Implies (TakesLine line) (LosesNothing [] [] line 0)
takes_line_loses_nothing line f l after (status, told, ((read, is, shown, changed), same)) = record {
  sent = rw is (ap waiting same ∙ sym (append-nil (waiting f)));
  received = rw is (ap (λ (g : RingFields). g.receive.items) same ∙ sym (append-nil f.receive.items));
  line_told =
      rw (told, shown, ap (λ (g : RingFields). g.line) same, ap (λ (g : Fields). g.lsr) changed, is)
      (or_zero_r _ ∙ now_told f.line f.driver.lsr read LSR.LINE_ERRORS.0);
  modem_told = rw (ap (λ (g : RingFields). g.modem) same, ap (λ (g : Fields). g.msr) changed, is) (sym (or_zero_r (untold_modem f)));
  rooms = (ap (λ (g : RingFields). g.transmit.capacity) same, ap (λ (g : RingFields). g.receive.capacity) same);
  settings = ap settings_of changed;
}

pub takes_modem_loses_nothing : (modem : ℕ) → Implies (TakesModem modem) (LosesNothing [] [] 0 modem)
takes_modem_loses_nothing modem f l after (status, told, ((read, is, shown, changed), same)) = record {
  sent = rw is (ap waiting same ∙ sym (append-nil (waiting f)));
  received = rw is (ap (λ (g : RingFields). g.receive.items) same ∙ sym (append-nil f.receive.items));
  line_told = rw (ap (λ (g : RingFields). g.line) same, ap (λ (g : Fields). g.lsr) changed, is) (sym (or_zero_r (untold_line f)));
  modem_told =
      rw (told, shown, ap (λ (g : RingFields). g.modem) same, ap (λ (g : Fields). g.msr) changed, is)
      (or_zero_r _ ∙ now_told f.modem f.driver.msr read MSR.CHANGES.0);
  rooms = (ap (λ (g : RingFields). g.transmit.capacity) same, ap (λ (g : RingFields). g.receive.capacity) same);
  settings = ap settings_of changed;
}

-- what was in the receive ring is dropped
pub clears_receive_loses_nothing : (f : RingFields) (count : ℕ) (l : List Access) (after : RingFields) → ClearsReceive count f l after →
    LosesNothing [] f.receive.items 0 0 f l after
clears_receive_loses_nothing f count l after (is, t) =
    let c = any_ends_pause_carries count (without_taken count f) l after t in
    let items = f.receive.items in
    let none : drop count items ≡ [] = drop_all count items (omega (arith, is)) in
    record {
      sent = sym c.sent ∙ sym (append-nil (waiting f));
      received = ap (λ xs. items ++ xs) (c.received ∙ ap (λ xs. xs ++ data_read l) none);
      line_told = c.line;
      modem_told = c.modem;
      rooms = c.rooms;
      settings = c.settings;
    }

-- ---- storms

turns_off_saves : (f : Fields) (l : List Access) (after : Fields) → TurnsOff f l after → Saves [] [] f l after
turns_off_saves f l after t = changes_saves (rid_of every_bit) f l after t

shows_stuck_carries : (error : StuckError) → Implies (OnDriver (ShowsStuck error) unchanged) Carries
shows_stuck_carries error f l after ((isr, shown, t), same) =
    let moves : Moves [] [] l = rw t.0.is (record { written_is = refl; read_is = refl }) in
    carries_still f f l after (saving_saves [] [] f.driver l after.driver moves t.1) same refl refl refl refl refl

looks_carry : (found : Option StuckError) → Implies (LooksOnceMore found) Carries
looks_carry None f l after ((isr, shown, idle, t), same) =
    let moves : Moves [] [] l = rw t.0.is (record { written_is = refl; read_is = refl }) in
    carries_still f (with_rounds 0 f) l after (saving_saves [] [] f.driver l after.driver moves t.1) same refl refl refl refl refl
looks_carry (Some error) f l after t =
    rw t.whole (carries-then f t.mid after t.front t.back (shows_stuck_carries error f t.front t.mid t.first)
    (carries_still t.mid (with_stuck error t.mid) t.back after (turns_off_saves t.mid.driver t.back after.driver t.second.0) t.second.1
    refl refl refl refl refl))

counts_unfinished_carry : (rounds : ℕ) (found : Option StuckError) → Implies (CountsUnfinished rounds found) Carries
counts_unfinished_carry rounds found f l after t = go (nat_lt (suc f.rounds) rounds) t
  where
    go : (more : Bool) → MatchBool more ((found ≡ None) × RingSets (with_rounds (suc f.rounds)) f l after) (LooksOnceMore found f l after) →
        Carries f l after
    go true t = sets_carry (with_rounds (suc f.rounds)) f l after t.1 refl refl refl refl refl refl
    go false t = looks_carry found f l after t

pub counts_carry : (rounds : ℕ) (end : HandleEnd) (found : Option StuckError) → Implies (CountsRound rounds end found) Carries
counts_carry rounds Idle found f l after t = sets_carry (with_rounds 0) f l after t.1 refl refl refl refl refl refl
counts_carry rounds Unknown found f l after t = counts_unfinished_carry rounds found f l after t
counts_carry rounds Limit found f l after t = counts_unfinished_carry rounds found f l after t

pub stays_stuck_carries : (error : StuckError) (result : Result Handled StuckError) → Implies (StaysStuck result error) Carries
stays_stuck_carries error result f l after (is, t) =
    carries_still f f l after (turns_off_saves f.driver l after.driver t.0) t.1 refl refl refl refl refl

pub tries_carry : (limit rounds : ℕ) (result : Result Handled StuckError) → Implies (TriesToHandle limit rounds result) Carries
tries_carry limit rounds result f l after t = go f.stuck t
  where
    go : (was : Option StuckError) → MatchOption was (HandlesRound (round_limit limit) rounds result f l after)
        (λ error. StaysStuck result error f l after) → Carries f l after
    go None (handled, found, is, t) =
        rw t.whole (carries-then f t.mid after t.front t.back (handles_carry (round_limit limit) handled f t.front t.mid t.first)
        (counts_carry rounds (counts_as (has_moved f t.mid) handled.end) found t.mid t.back after t.second))
    go (Some error) t = stays_stuck_carries error result f l after t

pub tries_lose_nothing : (limit rounds : ℕ) (result : Result Handled StuckError) →
    Implies (TriesToHandle limit rounds result) (LosesNothing [] [] 0 0)
tries_lose_nothing limit rounds result f l after t = carried f l after (tries_carry limit rounds result f l after t)

pub enables_carry : (bits : ℕ) → Implies (OnDriver (Enables bits) restarted) Carries
enables_carry bits f l after t =
    carries_still f (restarted f) l after (changes_saves (joined_with bits) f.driver l after.driver t.0) t.1 refl refl refl refl refl

pub restarts_lose_nothing : (bits : ℕ) → Implies (Restarts bits) (LosesNothing [] [] 0 0)
restarts_lose_nothing bits f l after t =
    carried f l after (rw t.whole (carries-then f t.mid after t.front t.back
    (enables_carry (not_paused f.is_paused bits) f t.front t.mid t.first) (resumes_carry t.mid t.back after t.second)))
