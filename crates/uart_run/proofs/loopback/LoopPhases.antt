-- The phases of a loopback test in loopback: the drain, the byte, the message.
use Rattle.uart_run.proofs.Names.{◌≡◌, ℕ, ◌≤◌, Bool, true, false, ◌==◌, inl, inr, List, [], ◌∷◌, ◌++◌, length, map, append-nil, Option}
use Rattle.uart_run.proofs.Names.{Some, None, Ok, refl, arith, sym, ◌∙◌, ap, MatchBool, nil_from_length, ByteSendError, NoCapacity}
use Rattle.uart_run.proofs.Names.{RemoteNotClearToSend, has, has_any, Path, Access, Read, Language, Settings, Then, InOrder, Asks, Never}
use Rattle.uart_run.proofs.Names.{Awaited, LinesAllow, SendRefused, Round, SendsAll, test_byte, test_message, DrainsLoopback, SendsTestByte}
use Rattle.uart_run.proofs.Names.{Echo, WholeEchoes, EachEchoes, HasEchoedAll, Character, Shifting, Sixteen, room, shift_bytes, ChipState}
use Rattle.uart_run.proofs.Names.{MachineState, MachineStep, has_one, Modes, IsIn, dlab-in, path_as, look_room, IsLooped}
use Rattle.uart_spec.specs.declared.registers.offsets.TheConstants as offsets
use Rattle.uart_spec.specs.declared.registers.line_status.TheConstants.LSR
use Rattle.uart_spec.specs.declared.registers.modem_status.TheConstants.MSR
use Rattle.uart_spec.specs.declared.registers.modem_control.TheConstants.MCR
use Rattle.uart_run.proofs.{EmptyTransmitter.IsSent, EmptyTransmitter.sent_path, SilentLists.silent, CallBlocks.Makes, CallBlocks.most_in}
use Rattle.uart_run.proofs.{CallBlocks.makes_then, CallBlocks.makes_reads, CallBlocks.awaited_blocks, CallBlocks.round_blocks}
use Rattle.uart_run.proofs.{CallBlocks.sends_all_blocks, CallBlocks.try_sends_blocks, CallKeeps.one_fits, CallKeeps.one_sent}
use Rattle.uart_run.proofs.{Served.EndsDry, Served.dry_empties, Latches.Kept, Latches.kept_in, Latches.kept_cut, Latches.kept_access}
use Rattle.uart_run.proofs.{Latches.kept_list, Pieces.then_parts, KeptLists.kept_still, built.Loopback.drains_loopback}
use Rattle.uart_run.proofs.{built.Transmit.no_room, loopback.LoopBlocks.IsIdle, loopback.LoopBlocks.CameBack}
use Rattle.uart_run.proofs.{loopback.LoopBlocks.comes_back}

-- ---- an idle chip

no_line : (waits : List ℕ) (place : Option Shifting) (queue : List ℕ) → waits ++ (shift_bytes place ++ queue) ≡ [] →
    (queue ≡ []) × (place ≡ None)
no_line [] None queue e = (e, refl)
no_line [] (Some s) queue e = absurd (cc)
no_line (x ∷ xs) place queue e = absurd (cc)

pub idle_sent : (x : Modes) (gone : List ℕ) (c : ChipState) → IsIdle x gone c → IsSent gone c.transmitter
idle_sent x gone c i =
    let t = c.transmitter in
    let p = no_line (map (λ (k : Character). k.byte) c.receiver.queue) t.shift_register t.queue i.line in
    record { queue = p.0; place = p.1; wire = i.wire }

sent_idle : (x : Modes) (gone : List ℕ) (c : ChipState) → IsIn x c → IsSent gone c.transmitter → length c.receiver.queue ≡ 0 →
    IsIdle x gone c
sent_idle x gone c w s none = record { modes = w; line = rw (nil_from_length c.receiver.queue none, s.place, s.queue) refl; wire = s.wire }

-- ---- the drain

-- what the registers keep says the modes
pub kept_in_modes : (x : Modes) (c d : ChipState) → kept_in d ≡ kept_in c → IsIn x c → IsIn x d
kept_in_modes x c d e w = record {
  lcr = ap (λ (k : Kept). k.latches.lcr) e ∙ w.lcr;
  mcr = ap (λ (k : Kept). k.latches.mcr) e ∙ w.mcr;
  fifo = ap (λ (k : Kept). k.fifo) e ∙ w.fifo;
  cut = ap kept_cut e ∙ w.cut;
}

-- a machine in a loopback test whose transmitter is empty, and settings that know whether its FIFO is on
pub record IsEntered (x : Modes) (gone : List ℕ) (s : Settings) (m : MachineState) : Type 0 where
  pub looped : IsLooped x
  pub fifo : s.fifo ≡ x.fifo
  pub modes : IsIn x m.chip
  pub sent : IsSent gone m.chip.transmitter

-- the same where nothing waits either
pub record IsReadyToTest (x : Modes) (gone : List ℕ) (s : Settings) (m : MachineState) : Type 0 where
  pub looped : IsLooped x
  pub fifo : s.fifo ≡ x.fifo
  pub idle : IsIdle x gone m.chip

pub drained : (x : Modes) (gone : List ℕ) (s : Settings) (l : List Access) (m n : MachineState) → IsEntered x gone s m →
    DrainsLoopback true s l → Path MachineStep m l n → IsReadyToTest x gone s n
drained x gone s l m n e t path =
    let kept = kept_still (drains_loopback true) refl s l m n (dlab-in x m.chip e.modes ∙ e.looped.dlab) t path in
    let dry : EndsDry s l = record { front = t.front; back = t.back; whole = t.whole; miss = t.second } in
    record {
      looped = e.looped;
      fifo = e.fifo;
      idle =
          sent_idle x gone n.chip (kept_in_modes x m.chip n.chip kept e.modes)
          (sent_path gone l m n (silent (drains_loopback true) refl s l t) e.sent path)
          (dry_empties s m n l dry path);
    }

-- ---- what comes back

-- what was read is what was written, cut, and the machine is as ready as before
pub record Exchanged (x : Modes) (gone : List ℕ) (s : Settings) (n : MachineState) (written read : List ℕ) : Type 0 where
  pub same : read ≡ map x.cut written
  pub ready : IsReadyToTest x gone s n

exchanged : (x : Modes) (gone : List ℕ) (s : Settings) (L : Language) (l : List Access) (m n : MachineState) (ws rs : List ℕ) →
    IsReadyToTest x gone s m → length ws ≤ room s.fifo Sixteen → length rs ≡ length ws → Makes s L ws rs → L s l → Path MachineStep m l n →
    Exchanged x gone s n ws rs
exchanged x gone s L l m n ws rs r few all makes t path =
    let c : CameBack x gone n.chip (map x.cut ws) rs = comes_back x (most_in s) gone m n l ws rs r.looped r.idle (rw (← r.fifo) few) all
    (makes l t) path in
    record { same = c.same; ready = record { looped = r.looped; fifo = r.fifo; idle = c.idle } }

-- the byte
pub byte_exchanged : (x : Modes) (gone : List ℕ) (s : Settings) (actual : ℕ) (l : List Access) (m n : MachineState) →
    IsReadyToTest x gone s m → Then SendsTestByte (Awaited actual) s l → Path MachineStep m l n →
    Exchanged x gone s n (test_byte ∷ []) (actual ∷ [])
byte_exchanged x gone s actual l m n r t path =
    let makes : Makes s (Then SendsTestByte (Awaited actual)) (test_byte ∷ []) (actual ∷ []) = λ k u.
    makes_then s SendsTestByte (Awaited actual) (test_byte ∷ []) [] [] (actual ∷ [])
    (λ v w. try_sends_blocks {T = Unit {0}} s test_byte (Ok tt) v w) (λ v w. awaited_blocks s actual v w) k u in
    exchanged x gone s (Then SendsTestByte (Awaited actual)) l m n (test_byte ∷ []) (actual ∷ []) r (one_fits s.fifo) refl makes t path

-- the message, whole
whole_exchanged : (x : Modes) (gone : List ℕ) (s : Settings) (sent got : List ℕ) (l : List Access) (m n : MachineState) →
    IsReadyToTest x gone s m → length sent ≤ room s.fifo Sixteen → WholeEchoes sent got s l → Path MachineStep m l n →
    Exchanged x gone s n sent got
whole_exchanged x gone s sent got l m n r few t path =
    let both = Then (SendsAll sent) (InOrder Awaited got) in
    let makes : Makes s both (sent ++ []) got = λ k u.
    makes_then s (SendsAll sent) (InOrder Awaited got) sent [] [] got (sends_all_blocks s sent)
    (makes_reads s Awaited (awaited_blocks s) got) k u in
    let same : Makes s both sent got = rw (append-nil sent) at makes in
    exchanged x gone s both l m n sent got r few t.0 same t.1 path

-- each byte by itself
echo_exchanged : (x : Modes) (gone : List ℕ) (s : Settings) (pair : ℕ × ℕ) (l : List Access) (m n : MachineState) →
    IsReadyToTest x gone s m → Echo pair s l → Path MachineStep m l n → Exchanged x gone s n (pair.0 ∷ []) (pair.1 ∷ [])
echo_exchanged x gone s pair l m n r t path =
    let makes : Makes s (Echo pair) (pair.0 ∷ []) (pair.1 ∷ []) = λ k u.
    makes_then s (Round (pair.0 ∷ [])) (Awaited pair.1) (pair.0 ∷ []) [] [] (pair.1 ∷ []) (round_blocks s (pair.0 ∷ []) (one_sent s))
    (awaited_blocks s pair.1) k u in
    exchanged x gone s (Echo pair) l m n (pair.0 ∷ []) (pair.1 ∷ []) r (one_fits s.fifo) refl makes t path

pub each_exchanged : (x : Modes) (gone : List ℕ) (s : Settings) (pairs : List (ℕ × ℕ)) (l : List Access) (m n : MachineState) →
    IsReadyToTest x gone s m → InOrder Echo pairs s l → Path MachineStep m l n →
    Exchanged x gone s n (map (λ pair. pair.0) pairs) (map (λ pair. pair.1) pairs)
each_exchanged x gone s [] l m n r t path =
    let same : n ≡ m = path_as m n l [] t.is path in
    record { same = refl; ready = rw same r }
each_exchanged x gone s (pair ∷ pairs) l m n r t path =
    let p = then_parts (Echo pair) (InOrder Echo pairs) s l m n t path in
    let a = echo_exchanged x gone s pair p.front m p.between r p.first p.before in
    let b = each_exchanged x gone s pairs p.back p.between n a.ready p.second p.after in
    record { same = cc (a.same, b.same); ready = b.ready }

-- the message, as the FIFO asks
pub message_exchanged : (x : Modes) (gone : List ℕ) (s : Settings) (got : List ℕ) (l : List Access) (m n : MachineState) →
    IsReadyToTest x gone s m → length got ≡ 16 → HasEchoedAll test_message (Some got) s l → Path MachineStep m l n →
    Exchanged x gone s n test_message got
message_exchanged x gone s got l m n r long t path = go s.fifo refl t
  where
    go : (b : Bool) → s.fifo ≡ b → MatchBool b (WholeEchoes test_message got s l) (EachEchoes test_message got s l) →
        Exchanged x gone s n test_message got
    go true e t = whole_exchanged x gone s test_message got l m n r (rw e (omega arith)) t path
    go false e (pairs, sent, back, made) = let a = each_exchanged x gone s pairs l m n r made path in rw (sent, back) at a

-- ---- no send is refused

-- the transmitter is empty, and in loopback the lines mean nothing
pub never_refused : (x : Modes) (gone : List ℕ) (s : Settings) (e : ByteSendError) (l : List Access) (m n : MachineState) →
    IsReadyToTest x gone s m → SendRefused e s l → Path MachineStep m l n → ⊥
never_refused x gone s NoCapacity l m n r t path = looked (path_as m n l (Read offsets.LSR t.answer ∷ []) t.is path)
  where
    sent : IsSent gone n.chip.transmitter
    sent = sent_path gone l m n (silent no_room refl s l t) (idle_sent x gone m.chip r.idle) path

    looked : Path MachineStep m (Read offsets.LSR t.answer ∷ []) n → ⊥
    looked (mid, step, same) =
        let full : (length mid.chip.transmitter.queue == 0) ≡ false = sym (look_room m mid t.answer step)
        ∙ (sym (has_one 5 t.answer) ∙ t.shows) in
        let empty : length mid.chip.transmitter.queue ≡ 0 = ap (λ (o : MachineState). length o.chip.transmitter.queue) (sym same)
        ∙ ap length sent.queue in
        let both : (0 == 0) ≡ false = rw empty at full in absurd (cc)
never_refused x gone s RemoteNotClearToSend l m n r t path = go s.checks t
  where
    in_loop : (k : MachineState) (answer : ℕ) (back : MachineState) → kept_in k.chip ≡ kept_in m.chip →
        Path MachineStep k (Read offsets.MCR answer ∷ []) back → has answer MCR.LOOP_BACK.0 ≡ false → ⊥
    in_loop k answer back kept (mid, step, same) off =
        let mcr : answer ≡ m.chip.latches.mcr = step.1 ∙ ap (λ (v : Kept). v.latches.mcr) (kept_access k ∙ kept) in
        let on : has answer MCR.LOOP_BACK.0 ≡ true = has_one 4 answer
        ∙ (ap (λ v. has_any v MCR.LOOP_BACK.0) (mcr ∙ r.idle.modes.mcr) ∙ r.looped.loopback) in
        absurd (cc)

    lines : (k : MachineState) (back : List Access) → kept_in k.chip ≡ kept_in m.chip → LinesAllow false s back →
        Path MachineStep k back n → ⊥
    lines k back kept (inl h) p = absurd (cc (h.0))
    lines k back kept (inr h) p =
        let a = then_parts (Asks offsets.MCR MCR.LOOP_BACK.0 false) (Asks offsets.MSR MSR.CTS.0 false) s back k n h p in
        in_loop k a.first.answer a.between kept (path_as k a.between a.front (Read offsets.MCR a.first.answer ∷ []) a.first.is a.before)
        a.first.shows

    go : (b : Bool) → MatchBool b (Then (Asks offsets.LSR LSR.THR_EMPTY.0 true) (LinesAllow false) s l) (Never s l) → ⊥
    go true t =
        let a = then_parts (Asks offsets.LSR LSR.THR_EMPTY.0 true) (LinesAllow false) s l m n t path in
        lines a.between a.back (kept_list a.front (Read offsets.LSR a.first.answer ∷ []) m a.between a.first.is a.before) a.second a.after
    go false t = t
