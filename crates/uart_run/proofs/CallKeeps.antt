-- What a call of a session does beside its bytes: its accesses are blocks, and what it read is saved.
use Rattle.uart_run.proofs.Names.{◌≡◌, ℕ, ◌≤◌, Bool, true, false, inl, inr, List, [], ◌∷◌, ◌++◌, take, append-nil, refl, arith, sym, ◌∙◌}
use Rattle.uart_run.proofs.Names.{ap, Result, Ok, Err, bit_or, nil_from_length, or_zero_r, RemoteReadyToReceiveError, StalledError}
use Rattle.uart_run.proofs.Names.{saved_lsr, saved_msr, Access, Read, Write, Language, Settings, Only, Then, AllMisses, Fields, settings_of}
use Rattle.uart_run.proofs.Names.{Saving, with_interrupts, SendMiss, Round, SendsEach, SendsBeginning, Keeps as Keeps_pattern}
use Rattle.uart_run.proofs.Names.{KeepsPatterns, ChecksPresence, Reads, Writes, Flushes, AnswersRead, AnswersWrite, TakesLsr, TakesMsr}
use Rattle.uart_run.proofs.Names.{Connects, ReadsDivisor, Enables, Disables, Retriggers, retrigger_accesses, Dumps, ConfigRegisterDump}
use Rattle.uart_run.proofs.Names.{ShowsFifo, Sixteen, room, some_room, is_quiet, Look, Other, Divisor, AllQuiet}
use Rattle.uart_spec.specs.declared.registers.offsets.TheConstants as offsets
use Rattle.uart_spec.specs.declared.registers.line_status.TheConstants.LSR
use Rattle.uart_run.proofs.CallBlocks.{InBlocks, blocks_none, blocks_one, blocks_then, most_in, Makes, makes_only_none}
use Rattle.uart_run.proofs.CallBlocks.{makes_then, makes_all, makes_look, send_hit_blocks, send_miss_blocks, round_blocks}
use Rattle.uart_run.proofs.CallBlocks.{sends_some_blocks, sends_some_none_blocks, waits_blocks, receives_some_blocks}

-- ---- accesses that tell of no data

-- some of them
pub quiet_blocks : (most : ℕ) (accesses : List Access) → AllQuiet accesses → InBlocks most accesses [] []
quiet_blocks most [] q = blocks_none most
quiet_blocks most (access ∷ accesses) q =
    blocks_then most (access ∷ []) accesses [] [] [] [] (blocks_one most (Other access) q.0) (quiet_blocks most accesses q.1)

-- a register that is read as it is
pub plain_blocks : (s : Settings) (register value : ℕ) → is_quiet (Read register value) ≡ true →
    Makes s (Only (Read register value ∷ [])) [] []
plain_blocks s register value q l t = rw t.is (blocks_one (most_in s) (Other (Read register value)) q)

-- `check_connected`
pub connects_blocks : {T : Type 0} (s : Settings) (result : Result T RemoteReadyToReceiveError) → Makes s (Connects result) [] []
connects_blocks s result l (status, shows, is) = rw is (blocks_one (most_in s) (Other (Read offsets.MSR status)) refl)

-- `dll_dlm`
pub reads_divisor_blocks : (s : Settings) (low high : ℕ) → Makes s (ReadsDivisor low high) [] []
reads_divisor_blocks s low high l (lcr, is) = rw is (blocks_one (most_in s) (Divisor lcr low high) tt)

-- `retrigger_interrupts`
pub retriggers_blocks : (s : Settings) → Makes s Retriggers [] []
retriggers_blocks s l (ier, is) = rw is (quiet_blocks (most_in s) (retrigger_accesses ier) (refl, (refl, (refl, tt))))

-- `check_present`
keeps_pattern_blocks : (s : Settings) (pattern : ℕ) (outcome : Bool) → Makes s (Keeps_pattern pattern outcome) [] []
keeps_pattern_blocks s pattern outcome l (back, kept, is) =
    rw is (quiet_blocks (most_in s) (Write offsets.SPR pattern ∷ Read offsets.SPR back ∷ []) (refl, (refl, tt)))

keeps_patterns_blocks : (s : Settings) (present : Bool) → Makes s (KeepsPatterns present) [] []
keeps_patterns_blocks s true l t =
    makes_then s (Keeps_pattern 66 true) (Keeps_pattern 115 true) [] [] [] [] (keeps_pattern_blocks s 66 true)
    (keeps_pattern_blocks s 115 true) l t
keeps_patterns_blocks s false l (inl t) = keeps_pattern_blocks s 66 false l t
keeps_patterns_blocks s false l (inr t) =
    makes_then s (Keeps_pattern 66 true) (Keeps_pattern 115 false) [] [] [] [] (keeps_pattern_blocks s 66 true)
    (keeps_pattern_blocks s 115 false) l t

scratch_blocks : (s : Settings) (old : ℕ) → Makes s (Only (Write offsets.SPR old ∷ [])) [] []
scratch_blocks s old l t = rw t.is (blocks_one (most_in s) (Other (Write offsets.SPR old)) refl)

pub checks_presence_blocks : (s : Settings) (present : Bool) → Makes s (ChecksPresence present) [] []
checks_presence_blocks s present l (old, t) =
    makes_then s (Only (Read offsets.SPR old ∷ [])) (Then (KeepsPatterns present) (Only (Write offsets.SPR old ∷ []))) [] [] [] []
    (plain_blocks s offsets.SPR old refl)
    (λ k u. makes_then s (KeepsPatterns present) (Only (Write offsets.SPR old ∷ [])) [] [] [] [] (keeps_patterns_blocks s present)
    (scratch_blocks s old) k u) l t

-- ---- readers and writers

-- `read`
pub reads_blocks : (s : Settings) (n : ℕ) (bytes : List ℕ) (result : Result ℕ StalledError) → Makes s (Reads n bytes result) [] bytes
reads_blocks s n bytes (Ok count) l (same, inl (none, zero, is)) = rw (nil_from_length bytes (same ∙ zero), is) (blocks_none (most_in s))
reads_blocks s n bytes (Ok count) l (same, inr (some, t)) = receives_some_blocks s n bytes true l t
reads_blocks s n bytes (Err e) l (some, none, t) = receives_some_blocks s n bytes false l t

-- the bytes that a write took
abbrev pub written_by : {E : Type 0} → Result ℕ E → List ℕ → List ℕ
written_by (Ok count) bytes = take count bytes
written_by (Err e) bytes = []

-- `write`
pub writes_blocks : (s : Settings) (bytes : List ℕ) (result : Result ℕ StalledError) →
    Makes s (Writes bytes result) (written_by result bytes) []
writes_blocks s bytes (Ok count) l (inl (none, zero, is)) = rw (zero, is) (blocks_none (most_in s))
writes_blocks s bytes (Ok count) l (inr (some, t)) = sends_some_blocks s bytes count l t
writes_blocks s bytes (Err e) l (some, none, t) = sends_some_none_blocks s bytes l t

-- `flush`
pub flushes_blocks : {T : Type 0} (s : Settings) (result : Result T StalledError) → Makes s (Flushes result) [] []
flushes_blocks s (Ok x) l t = waits_blocks s LSR.TRANSMITTER_EMPTY.0 true l t
flushes_blocks s (Err e) l t = waits_blocks s LSR.TRANSMITTER_EMPTY.0 false l t.1

-- `read_ready`
pub answers_read_blocks : (s : Settings) (result : Result Bool StalledError) → Makes s (AnswersRead result) [] []
answers_read_blocks s (Ok ready) l t = makes_look s LSR.DATA_READY.0 ready l t
answers_read_blocks s (Err e) l t = absurd t

-- `write_ready`
pub answers_write_blocks : (s : Settings) (result : Result Bool StalledError) → Makes s (AnswersWrite result) [] []
answers_write_blocks s (Ok true) l t = send_hit_blocks s l t
answers_write_blocks s (Ok false) l t = send_miss_blocks s l t
answers_write_blocks s (Err e) l t = absurd t

-- ---- texts

pub one_fits : (fifo : Bool) → 1 ≤ room fifo Sixteen
one_fits true = omega arith
one_fits false = omega arith

-- one byte may be written after each look
pub one_sent : (s : Settings) → 1 ≤ most_in s
one_sent s = some_room s.fifo s.size

pub sends_each_blocks : (s : Settings) (bytes : List ℕ) → Makes s (SendsEach bytes) bytes []
sends_each_blocks s [] l t = makes_only_none s l t
sends_each_blocks s (byte ∷ bytes) l t =
    makes_then s (Round (byte ∷ [])) (SendsEach bytes) (byte ∷ []) bytes [] [] (round_blocks s (byte ∷ []) (one_sent s))
    (λ k u. sends_each_blocks s bytes k u) l t

pub sends_beginning_blocks : (s : Settings) (bytes : List ℕ) (n : ℕ) → Makes s (SendsBeginning bytes n) (take n bytes) []
sends_beginning_blocks s bytes n l t =
    let b : InBlocks (most_in s) l (take n bytes ++ []) [] =
    makes_then s (SendsEach (take n bytes)) (AllMisses SendMiss) (take n bytes) [] [] [] (sends_each_blocks s (take n bytes))
    (makes_all s SendMiss (send_miss_blocks s)) l t.1 in
    rw (append-nil (take n bytes)) at b

-- ---- the fields

-- the accesses are blocks, which write these bytes and read those; what the statuses showed is saved, and the FIFO is taken as before
pub record Keeps (f : Fields) (l : List Access) (after : Fields) (written read : List ℕ) : Type 0 where
  pub blocks : InBlocks (most_in (settings_of f)) l written read
  pub fifo : after.fifo ≡ f.fifo
  pub lsr : after.lsr ≡ bit_or f.lsr (saved_lsr l)
  pub msr : after.msr ≡ bit_or f.msr (saved_msr l)

pub saving_keeps : (L : Language) (f after : Fields) (l : List Access) (ws rs : List ℕ) → Makes (settings_of f) L ws rs →
    Saving L f l after → Keeps f l after ws rs
saving_keeps L f after l ws rs b t = record {
  blocks = b l t.0;
  fifo = ap (λ g. g.fifo) t.1;
  lsr = ap (λ g. g.lsr) t.1;
  msr = ap (λ g. g.msr) t.1;
}

-- no status is read
no_status_keeps : (f after : Fields) (l made : List Access) → InBlocks (most_in (settings_of f)) made [] [] → l ≡ made →
    saved_lsr made ≡ 0 → saved_msr made ≡ 0 → after.fifo ≡ f.fifo → after.lsr ≡ f.lsr → after.msr ≡ f.msr → Keeps f l after [] []
no_status_keeps f after l made b e p q fifo lsr msr = rw e (record {
  blocks = b;
  fifo = fifo;
  lsr = lsr ∙ sym (ap (bit_or f.lsr) p ∙ or_zero_r f.lsr);
  msr = msr ∙ sym (ap (bit_or f.msr) q ∙ or_zero_r f.msr);
})

-- no access, and the fields stay
pub shows_fifo_keeps : (on : Bool) (f after : Fields) (l : List Access) → ShowsFifo on f l after → Keeps f l after [] []
shows_fifo_keeps on f after l (shown, kept) =
    no_status_keeps f after l [] (blocks_none (most_in (settings_of f))) kept.0 refl refl
    (ap (λ g. g.fifo) kept.1) (ap (λ g. g.lsr) kept.1) (ap (λ g. g.msr) kept.1)

-- IER is read, and written with this
changes_keeps : (ier value : ℕ) (f after : Fields) (l : List Access) → l ≡ Read offsets.IER ier ∷ Write offsets.IER value ∷ [] →
    after ≡ with_interrupts value f → Keeps f l after [] []
changes_keeps ier value f after l is changed =
    no_status_keeps f after l _
    (quiet_blocks (most_in (settings_of f)) (Read offsets.IER ier ∷ Write offsets.IER value ∷ []) (refl, (refl, tt))) is refl refl
    (ap (λ g. g.fifo) changed) (ap (λ g. g.lsr) changed) (ap (λ g. g.msr) changed)

pub enables_keeps : (bits : ℕ) (f after : Fields) (l : List Access) → Enables bits f l after → Keeps f l after [] []
enables_keeps bits f after l (ier, is, changed) = changes_keeps ier _ f after l is changed

pub disables_keeps : (bits : ℕ) (f after : Fields) (l : List Access) → Disables bits f l after → Keeps f l after [] []
disables_keeps bits f after l (ier, is, changed) = changes_keeps ier _ f after l is changed

pub dumps_keeps : (dump : ConfigRegisterDump) (f after : Fields) (l : List Access) → Dumps dump f l after → Keeps f l after [] []
dumps_keeps dump f after l d = record {
  blocks = record {
    blocks =
        Divisor d.lcr dump.dll dump.dlm ∷ Other (Read offsets.IER dump.ier.0) ∷ Other (Read offsets.ISR dump.isr.0) ∷ Other
        (Read offsets.LCR dump.lcr.0) ∷ Other (Read offsets.MCR dump.mcr.0) ∷
        Look d.lsr ∷ Other (Read offsets.MSR d.msr) ∷ Other (Read offsets.SPR dump.spr) ∷ [];
    joined = d.is;
    fit = (tt, (refl, (refl, (refl, (refl, (tt, (refl, (refl, tt))))))));
    is_written = refl;
    is_read = refl;
  };
  fifo = ap (λ g. g.fifo) d.keeps;
  lsr = ap (λ g. g.lsr) d.keeps;
  msr = ap (λ g. g.msr) d.keeps;
}

-- ---- the calls that tell what is saved and forget it

-- no data is moved, the FIFO is taken as before, and what is saved of the other status stays
pub record KeepsButLsr (f : Fields) (l : List Access) (after : Fields) : Type 0 where
  pub blocks : InBlocks (most_in (settings_of f)) l [] []
  pub fifo : after.fifo ≡ f.fifo
  pub msr : after.msr ≡ bit_or f.msr (saved_msr l)

pub record KeepsButMsr (f : Fields) (l : List Access) (after : Fields) : Type 0 where
  pub blocks : InBlocks (most_in (settings_of f)) l [] []
  pub fifo : after.fifo ≡ f.fifo
  pub lsr : after.lsr ≡ bit_or f.lsr (saved_lsr l)

-- one look
pub takes_lsr_keeps : (result : ℕ) (f after : Fields) (l : List Access) → TakesLsr result f l after → KeepsButLsr f l after
takes_lsr_keeps result f after l (status, is, joined, emptied) = rw is (record {
  blocks = blocks_one (most_in (settings_of f)) (Look status) tt;
  fifo = ap (λ g. g.fifo) emptied;
  msr = ap (λ g. g.msr) emptied ∙ sym (or_zero_r f.msr);
})

-- one read of the modem status
pub takes_msr_keeps : (result : ℕ) (f after : Fields) (l : List Access) → TakesMsr result f l after → KeepsButMsr f l after
takes_msr_keeps result f after l (status, is, joined, emptied) = rw is (record {
  blocks = blocks_one (most_in (settings_of f)) (Other (Read offsets.MSR status)) refl;
  fifo = ap (λ g. g.fifo) emptied;
  lsr = ap (λ g. g.lsr) emptied ∙ sym (or_zero_r f.lsr);
})
