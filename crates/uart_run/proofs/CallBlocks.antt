-- The accesses of each call, in blocks.
use Rattle.uart_run.proofs.Names.{◌≡◌, ℕ, zero, suc, ◌+◌, ◌≤◌, Bool, true, false, inl, inr, List, [], ◌∷◌, ◌++◌, length, length-append}
use Rattle.uart_run.proofs.Names.{take, drop, append_assoc, append-nil, refl, arith, sym, ◌∙◌, ap, Result, Ok, Err, Some, None, MatchBool}
use Rattle.uart_run.proofs.Names.{concat, length-take, nil_from_length, take-append-drop, ByteSendError, NoCapacity, RemoteNotClearToSend}
use Rattle.uart_run.proofs.Names.{StalledError, Path, Access, Read, Language, Settings, Only, Then, InOrder, Times, FewMisses, AllMisses}
use Rattle.uart_run.proofs.Names.{Asks, Miss, ReadyToReceive, TryReceive, Receives, Awaited, ReceivesSome, filled, ReceivesExact}
use Rattle.uart_run.proofs.Names.{HitWithErrors, ReceivesWithErrors, Received, only_bytes, LinesAllow, SendHit, SendRefused, SendMiss}
use Rattle.uart_run.proofs.Names.{ReadyToSend, Burst, burst_size, burst_limit, Sends, Round, SendsSome, IsCut, SendsAll, SendsExact}
use Rattle.uart_run.proofs.Names.{TrySends, WaitsFor, has_any, room, MachineState, MachineStep, has_one, is_quiet, Block, Look}
use Rattle.uart_run.proofs.Names.{Hit as Hit_block, Other, accesses_of, AllQuiet, IsFit, AllFit, flat, written_in, read_in, data_written}
use Rattle.uart_run.proofs.Names.{data_read, Modes, IsOpen, Stands, PassedBlocks, passed_blocks}
use Rattle.std.proofs.Math.Seq.{take-append_seam}
use Rattle.uart_spec.specs.declared.registers.offsets.TheConstants as offsets
use Rattle.uart_spec.specs.declared.registers.line_status.TheConstants.LSR
use Rattle.uart_spec.specs.declared.registers.modem_status.TheConstants.MSR
use Rattle.uart_spec.specs.declared.registers.modem_control.TheConstants.MCR
use Rattle.uart_16550.specs.Receive.{Hit}
use Rattle.uart_chip.proofs.conservation.Blocks.{Burst as Burst_block}

-- ---- accesses in blocks

-- these accesses are blocks, in which at most so many bytes are written after one look; they write these bytes and read those
pub record InBlocks (most : ℕ) (made : List Access) (written read : List ℕ) : Type 0 where
  pub blocks : List Block
  pub joined : made ≡ flat blocks
  pub fit : AllFit most blocks
  pub is_written : data_written blocks ≡ written
  pub is_read : data_read blocks ≡ read

flat-append : (xs ys : List Block) → flat (xs ++ ys) ≡ flat xs ++ flat ys
flat-append [] ys = refl
flat-append (x ∷ xs) ys = ap (λ zs. accesses_of x ++ zs) (flat-append xs ys) ∙ sym (append_assoc (accesses_of x) (flat xs) (flat ys))

all_fit-append : (most : ℕ) (xs ys : List Block) → AllFit most xs → AllFit most ys → AllFit most (xs ++ ys)
all_fit-append most [] ys p q = q
all_fit-append most (x ∷ xs) ys p q = (p.0, all_fit-append most xs ys p.1 q)

written-append : (xs ys : List Block) → data_written (xs ++ ys) ≡ data_written xs ++ data_written ys
written-append [] ys = refl
written-append (x ∷ xs) ys =
    ap (λ zs. written_in x ++ zs) (written-append xs ys) ∙ sym (append_assoc (written_in x) (data_written xs) (data_written ys))

read-append : (xs ys : List Block) → data_read (xs ++ ys) ≡ data_read xs ++ data_read ys
read-append [] ys = refl
read-append (x ∷ xs) ys = ap (λ zs. read_in x ++ zs) (read-append xs ys) ∙ sym (append_assoc (read_in x) (data_read xs) (data_read ys))

pub blocks_none : (most : ℕ) → InBlocks most [] [] []
blocks_none most = record { blocks = []; joined = refl; fit = tt; is_written = refl; is_read = refl }

pub blocks_one : (most : ℕ) (block : Block) → IsFit most block → InBlocks most (accesses_of block) (written_in block) (read_in block)
blocks_one most block fit = record {
  blocks = block ∷ [];
  joined = sym (append-nil (accesses_of block));
  fit = (fit, tt);
  is_written = append-nil (written_in block);
  is_read = append-nil (read_in block);
}

pub blocks_then : (most : ℕ) (xs ys : List Access) (ws vs rs qs : List ℕ) → InBlocks most xs ws rs → InBlocks most ys vs qs →
    InBlocks most (xs ++ ys) (ws ++ vs) (rs ++ qs)
blocks_then most xs ys ws vs rs qs a b = record {
  blocks = a.blocks ++ b.blocks;
  joined = rw (a.joined, b.joined) (sym (flat-append a.blocks b.blocks));
  fit = all_fit-append most a.blocks b.blocks a.fit b.fit;
  is_written = rw (← a.is_written, ← b.is_written) (written-append a.blocks b.blocks);
  is_read = rw (← a.is_read, ← b.is_read) (read-append a.blocks b.blocks);
}

-- what accesses in blocks do to a machine of a session that has room for as many bytes as are written after one look
pub passed_in_blocks : (x : Modes) (most : ℕ) (m n : MachineState) (made : List Access) (ws rs : List ℕ) → IsOpen x → Stands x m →
    most ≤ room x.fifo m.chip.transmitter.size → InBlocks most made ws rs → Path MachineStep m made n → PassedBlocks x m n made ws rs
passed_in_blocks x most m n made ws rs o w fits b p =
    let q = passed_blocks x most b.blocks m n o w fits b.fit (rw b.joined at p) in
    rw (b.is_written, b.is_read, ← b.joined) at q

none_left : (xs ys : List ℕ) → xs ++ ys ≡ [] → (length xs ≤ 0) × (ys ≡ [])
none_left [] ys e = (omega arith, e)
none_left (x ∷ xs) ys e = absurd (cc)

-- blocks that write nothing
silent_fit : (most : ℕ) (blocks : List Block) → AllFit most blocks → data_written blocks ≡ [] → AllFit 0 blocks
silent_fit most [] fit e = tt
silent_fit most (Burst_block line checks bytes ∷ blocks) fit e =
    let none = none_left bytes (data_written blocks) e in
    ((fit.0.0, fit.0.1, none.0), silent_fit most blocks fit.1 none.1)
silent_fit most (block ∷ blocks) fit e = (fit.0, silent_fit most blocks fit.1 e)

-- where nothing is written, any FIFO has room for it
pub passed_silently : (x : Modes) (most : ℕ) (m n : MachineState) (made : List Access) (rs : List ℕ) → IsOpen x → Stands x m →
    InBlocks most made [] rs → Path MachineStep m made n → PassedBlocks x m n made [] rs
passed_silently x most m n made rs o w b p =
    let silent : InBlocks 0 made [] rs = record {
      blocks = b.blocks;
      joined = b.joined;
      fit = silent_fit most b.blocks b.fit b.is_written;
      is_written = b.is_written;
      is_read = b.is_read;
    } in
    passed_in_blocks x 0 m n made [] rs o w (omega arith) silent p

-- ---- languages whose lists are blocks

-- the most bytes that are written after one look under these settings
abbrev pub most_in : Settings → ℕ
most_in s = burst_limit s.fifo s.size

-- each list of the language is blocks that write these bytes and read those
abbrev pub Makes : Settings → Language → List ℕ → List ℕ → Type 0
Makes s P ws rs = (l : List Access) → P s l → InBlocks (most_in s) l ws rs

pub makes_only_none : (s : Settings) → Makes s (Only []) [] []
makes_only_none s l p = rw p.is (blocks_none (most_in s))

pub makes_then : (s : Settings) (P Q : Language) (ws vs rs qs : List ℕ) → Makes s P ws rs → Makes s Q vs qs →
    Makes s (Then P Q) (ws ++ vs) (rs ++ qs)
makes_then s P Q ws vs rs qs p q l t =
    rw t.whole (blocks_then (most_in s) t.front t.back ws vs rs qs (p t.front t.first) (q t.back t.second))

pub makes_times : (s : Settings) (n : ℕ) (P : Language) → Makes s P [] [] → Makes s (Times n P) [] []
makes_times s zero P p l t = makes_only_none s l t
makes_times s (suc n) P p l t = makes_then s P (Times n P) [] [] [] [] p (λ k u. makes_times s n P p k u) l t

pub makes_few : (s : Settings) (P : Language) → Makes s P [] [] → Makes s (FewMisses P) [] []
makes_few s P p l t = makes_times s t.0 P p l t.2

pub makes_all : (s : Settings) (P : Language) → Makes s P [] [] → Makes s (AllMisses P) [] []
makes_all s P p l t = makes_times s s.limit P p l t

-- ---- single reads

-- a look, whatever it shows
pub makes_look : (s : Settings) (bits : ℕ) (outcome : Bool) → Makes s (Asks offsets.LSR bits outcome) [] []
makes_look s bits outcome l t = rw t.is (blocks_one (most_in s) (Look t.answer) tt)

-- a read that tells of no data
pub makes_quiet : (s : Settings) (register bits : ℕ) (outcome : Bool) → is_quiet (Read register 0) ≡ true →
    Makes s (Asks register bits outcome) [] []
makes_quiet s register bits outcome q l t = rw t.is (blocks_one (most_in s) (Other (Read register t.answer)) q)

-- ---- the send check

-- a send check that hits: a look that shows room, and reads of the modem registers
pub record SendCheck (l : List Access) : Type 0 where
  pub line : ℕ
  pub shows : has_any line LSR.THR_EMPTY.0 ≡ true
  pub checks : List Access
  pub quiet : AllQuiet checks
  pub is : l ≡ Read offsets.LSR line ∷ checks

lines_quiet : (s : Settings) (allowed : Bool) (l : List Access) → LinesAllow allowed s l → AllQuiet l
lines_quiet s allowed l (inl t) = rw t.1.is (refl, tt)
lines_quiet s allowed l (inr t) = rw (t.whole, t.first.is, t.second.is) (refl, (refl, tt))

room_shown : (s : Settings) (l : List Access) → Asks offsets.LSR LSR.THR_EMPTY.0 true s l → SendCheck l
room_shown s l t = record { line = t.answer; shows = sym (has_one 5 t.answer) ∙ t.shows; checks = []; quiet = tt; is = t.is }

pub send_check : (s : Settings) (l : List Access) → SendHit s l → SendCheck l
send_check s l t = go s.checks t
  where
    go : (b : Bool) →
        MatchBool b (Then (Asks offsets.LSR LSR.THR_EMPTY.0 true) (LinesAllow true) s l) (Asks offsets.LSR LSR.THR_EMPTY.0 true s l) →
        SendCheck l
    go true t = record {
      line = t.first.answer;
      shows = sym (has_one 5 t.first.answer) ∙ t.first.shows;
      checks = t.back;
      quiet = lines_quiet s true t.back t.second;
      is = rw (t.whole, t.first.is) refl;
    }
    go false t = room_shown s l t

lines_blocks : (s : Settings) (allowed : Bool) → Makes s (LinesAllow allowed) [] []
lines_blocks s allowed l (inl t) = makes_quiet s offsets.MCR MCR.LOOP_BACK.0 true refl l t.1
lines_blocks s allowed l (inr t) =
    makes_then s (Asks offsets.MCR MCR.LOOP_BACK.0 false) (Asks offsets.MSR MSR.CTS.0 allowed) [] [] [] []
    (makes_quiet s offsets.MCR MCR.LOOP_BACK.0 false refl) (makes_quiet s offsets.MSR MSR.CTS.0 allowed refl) l t

refused_blocks : (s : Settings) (e : ByteSendError) → Makes s (SendRefused e) [] []
refused_blocks s NoCapacity l t = makes_look s LSR.THR_EMPTY.0 false l t
refused_blocks s RemoteNotClearToSend l t = go s.checks t
  where
    go : (b : Bool) → MatchBool b (Then (Asks offsets.LSR LSR.THR_EMPTY.0 true) (LinesAllow false) s l) ⊥ → InBlocks (most_in s) l [] []
    go true t =
        makes_then s (Asks offsets.LSR LSR.THR_EMPTY.0 true) (LinesAllow false) [] [] [] [] (makes_look s LSR.THR_EMPTY.0 true)
        (lines_blocks s false) l t
    go false t = absurd t

pub send_miss_blocks : (s : Settings) → Makes s SendMiss [] []
send_miss_blocks s l t = refused_blocks s t.0 l t.1

pub send_hit_blocks : (s : Settings) → Makes s SendHit [] []
send_hit_blocks s l t =
    let c = send_check s l t in
    rw (c.is, ← append-nil c.checks) (blocks_one (most_in s) (Burst_block c.line c.checks []) (c.shows, c.quiet, omega arith))

pub ready_to_send_blocks : (s : Settings) (result : Result (Unit {0}) ByteSendError) → Makes s (ReadyToSend result) [] []
ready_to_send_blocks s (Ok x) l t = send_hit_blocks s l t
ready_to_send_blocks s (Err e) l t = refused_blocks s e l t

-- ---- sending

burst_blocks : (s : Settings) (bytes : List ℕ) → length bytes ≤ most_in s → Makes s (Burst bytes) bytes []
burst_blocks s bytes few l t =
    let c = send_check s t.front t.first in
    rw (t.whole, t.second.is, c.is) (blocks_one (most_in s) (Burst_block c.line c.checks bytes) (c.shows, c.quiet, few))

burst_room : (s : Settings) (bytes : List ℕ) → length (take (burst_size s bytes) bytes) ≤ most_in s
burst_room s bytes = rw length-take (omega arith)

-- `send_bytes`: what it reports is what it wrote
pub sends_blocks : (s : Settings) (bytes : List ℕ) (k : ℕ) → Makes s (Sends bytes k) (take k bytes) []
sends_blocks s bytes k l (inl t) = rw (t.1, t.2) (blocks_none (most_in s))
sends_blocks s bytes k l (inr (inl t)) = rw t.1 (send_miss_blocks s l t.2)
sends_blocks s bytes k l (inr (inr t)) = burst_blocks s (take k bytes) (rw t.1 (burst_room s bytes)) l t.2

pub round_blocks : (s : Settings) (bytes : List ℕ) → length bytes ≤ most_in s → Makes s (Round bytes) bytes []
round_blocks s bytes few l t =
    makes_then s (FewMisses SendMiss) (Burst bytes) [] bytes [] [] (makes_few s SendMiss (send_miss_blocks s))
    (burst_blocks s bytes few) l t

pub pieces_blocks : (s : Settings) (bytes : List ℕ) (pieces : List (List ℕ)) (rest : List ℕ) → IsCut s bytes pieces rest →
    Makes s (InOrder Round pieces) (concat pieces) []
pieces_blocks s bytes [] rest cut l t = makes_only_none s l t
pieces_blocks s bytes (piece ∷ pieces) rest cut l t =
    makes_then s (Round piece) (InOrder Round pieces) piece (concat pieces) [] [] (round_blocks s piece (rw cut.1 (burst_room s bytes)))
    (λ k u. pieces_blocks s (drop (burst_size s bytes) bytes) pieces rest cut.2 k u) l t

-- the pieces and the rest are the whole
pub cut_whole : (s : Settings) (bytes : List ℕ) (pieces : List (List ℕ)) (rest : List ℕ) → IsCut s bytes pieces rest →
    concat pieces ++ rest ≡ bytes
cut_whole s bytes [] rest cut = cut
cut_whole s bytes (piece ∷ pieces) rest cut =
    let n = burst_size s bytes in
    append_assoc piece (concat pieces) rest ∙ (ap (λ zs. piece ++ zs) (cut_whole s (drop n bytes) pieces rest cut.2) ∙
    (ap (λ zs. zs ++ drop n bytes) cut.1 ∙ take-append-drop n bytes))

-- `write`: a burst after a wait, or a wait in vain
pub sends_some_blocks : (s : Settings) (bytes : List ℕ) (k : ℕ) → Makes s (SendsSome bytes (Some k)) (take k bytes) []
sends_some_blocks s bytes k l t = round_blocks s (take k bytes) (rw t.0 (burst_room s bytes)) l t.1

pub sends_some_none_blocks : (s : Settings) (bytes : List ℕ) → Makes s (SendsSome bytes None) [] []
sends_some_none_blocks s bytes l t = makes_all s SendMiss (send_miss_blocks s) l t

pub sends_all_blocks : (s : Settings) (bytes : List ℕ) → Makes s (SendsAll bytes) bytes []
sends_all_blocks s bytes l t =
    let whole : concat t.0 ≡ bytes = sym (append-nil (concat t.0)) ∙ cut_whole s bytes t.0 [] t.1 in
    rw (← whole) (pieces_blocks s bytes t.0 [] t.1 l t.2)

-- `send_bytes_exact`: all of the bytes, or as many from the front as it reports
pub sends_exact_blocks : {T : Type 0} (s : Settings) (bytes : List ℕ) (result : Result T StalledError) →
    Makes s (SendsExact bytes result) (filled result bytes) []
sends_exact_blocks s bytes (Ok x) l t = sends_all_blocks s bytes l t
sends_exact_blocks s bytes (Err e) l (pieces, rest, cut, some, count, made) =
    let whole : concat pieces ++ rest ≡ bytes = cut_whole s bytes pieces rest cut in
    let long : length (concat pieces) + length rest ≡ length bytes = sym (length-append (concat pieces) rest) ∙ ap length whole in
    let done : e.done ≡ length (concat pieces) = omega arith in
    let front : take e.done bytes ≡ concat pieces = rw (done, ← whole) (take-append_seam (concat pieces) rest) in
    let b : InBlocks (most_in s) l (concat pieces ++ []) [] =
    makes_then s (InOrder Round pieces) (AllMisses SendMiss) (concat pieces) [] [] [] (pieces_blocks s bytes pieces rest cut)
    (makes_all s SendMiss (send_miss_blocks s)) l made in
    rw front (rw (append-nil (concat pieces)) at b)

-- `try_send_byte`: its byte where it is sent
abbrev pub sent_by : {T E : Type 0} → Result T E → ℕ → List ℕ
sent_by (Ok x) byte = byte ∷ []
sent_by (Err e) byte = []

pub try_sends_blocks : {T : Type 0} (s : Settings) (byte : ℕ) (result : Result T ByteSendError) →
    Makes s (TrySends byte result) (sent_by result byte) []
try_sends_blocks s byte (Ok x) l t = sends_blocks s (byte ∷ []) 1 l t
try_sends_blocks s byte (Err NoCapacity) l t = sends_blocks s (byte ∷ []) 0 l t
try_sends_blocks s byte (Err RemoteNotClearToSend) l t = absurd t

-- a wait for bits of the line status
pub waits_blocks : (s : Settings) (bits : ℕ) (outcome : Bool) → Makes s (WaitsFor bits outcome) [] []
waits_blocks s bits true l t =
    makes_then s (FewMisses (Asks offsets.LSR bits false)) (Asks offsets.LSR bits true) [] [] [] []
    (makes_few s (Asks offsets.LSR bits false) (makes_look s bits false)) (makes_look s bits true) l t
waits_blocks s bits false l t = makes_all s (Asks offsets.LSR bits false) (makes_look s bits false) l t

-- ---- receiving

miss_blocks : (s : Settings) → Makes s Miss [] []
miss_blocks s l t = makes_look s LSR.DATA_READY.0 false l t

pub hit_blocks : (s : Settings) (byte : ℕ) → Makes s (Hit byte) [] (byte ∷ [])
hit_blocks s byte l t =
    let shows : has_any t.first.answer LSR.DATA_READY.0 ≡ true = sym (has_one 0 t.first.answer) ∙ t.first.shows in
    rw (t.whole, t.first.is, t.second.is) (blocks_one (most_in s) (Hit_block t.first.answer byte) shows)

pub ready_to_receive_blocks : {T E : Type 0} (s : Settings) (result : Result T E) → Makes s (ReadyToReceive result) [] []
ready_to_receive_blocks s (Ok x) l t = makes_look s LSR.DATA_READY.0 true l t
ready_to_receive_blocks s (Err e) l t = miss_blocks s l t

-- `try_receive_byte`: the byte where there is one
abbrev pub received_by : {E : Type 0} → Result ℕ E → List ℕ
received_by (Ok byte) = byte ∷ []
received_by (Err e) = []

pub try_receive_blocks : {E : Type 0} (s : Settings) (result : Result ℕ E) → Makes s (TryReceive result) [] (received_by result)
try_receive_blocks s (Ok byte) l t = hit_blocks s byte l t
try_receive_blocks s (Err e) l t = miss_blocks s l t

-- bytes that are read one after the other
pub makes_reads : (s : Settings) (P : ℕ → Language) → ((byte : ℕ) → Makes s (P byte) [] (byte ∷ [])) → (bytes : List ℕ) →
    Makes s (InOrder P bytes) [] bytes
makes_reads s P p [] l t = makes_only_none s l t
makes_reads s P p (byte ∷ bytes) l t =
    makes_then s (P byte) (InOrder P bytes) [] [] (byte ∷ []) bytes (p byte) (λ k u. makes_reads s P p bytes k u) l t

-- bytes that are read, and then something else
makes_reads_then : (s : Settings) (P : ℕ → Language) (Q : Language) → ((byte : ℕ) → Makes s (P byte) [] (byte ∷ [])) → (bytes : List ℕ) →
    Makes s Q [] [] → Makes s (Then (InOrder P bytes) Q) [] bytes
makes_reads_then s P Q p bytes q l t =
    let b : InBlocks (most_in s) l [] (bytes ++ []) = makes_then s (InOrder P bytes) Q [] [] bytes [] (makes_reads s P p bytes) q l t in
    rw (append-nil bytes) at b

-- `receive_bytes`
pub receives_blocks : (s : Settings) (n : ℕ) (bytes : List ℕ) → Makes s (Receives n bytes) [] bytes
receives_blocks s n bytes l (inl t) = makes_reads s Hit (hit_blocks s) bytes l t.1
receives_blocks s n bytes l (inr t) = makes_reads_then s Hit Miss (hit_blocks s) bytes (miss_blocks s) l t.1

pub awaited_blocks : (s : Settings) (byte : ℕ) → Makes s (Awaited byte) [] (byte ∷ [])
awaited_blocks s byte l t =
    makes_then s (FewMisses Miss) (Hit byte) [] [] [] (byte ∷ []) (makes_few s Miss (miss_blocks s)) (hit_blocks s byte) l t

-- `read`
pub receives_some_blocks : (s : Settings) (n : ℕ) (bytes : List ℕ) (came : Bool) → Makes s (ReceivesSome n bytes came) [] bytes
receives_some_blocks s n bytes true l t =
    makes_then s (FewMisses Miss) (Receives n bytes) [] [] [] bytes (makes_few s Miss (miss_blocks s)) (receives_blocks s n bytes) l t.1
receives_some_blocks s n bytes false l t = rw (nil_from_length bytes t.0) (makes_all s Miss (miss_blocks s) l t.1)

-- `receive_bytes_exact`
pub receives_exact_blocks : {T : Type 0} (s : Settings) (n : ℕ) (bytes : List ℕ) (result : Result T StalledError) →
    Makes s (ReceivesExact n bytes result) [] bytes
receives_exact_blocks s n bytes (Ok x) l t = makes_reads s Awaited (awaited_blocks s) bytes l t.1
receives_exact_blocks s n bytes (Err e) l t =
    makes_reads_then s Awaited (AllMisses Miss) (awaited_blocks s) bytes (makes_all s Miss (miss_blocks s)) l t.2

-- `receive_with_errors`
hit_with_blocks : (s : Settings) (received : Received) → Makes s (HitWithErrors received) [] (received.byte ∷ [])
hit_with_blocks s received l (line, ready, shown, is) =
    let shows : has_any line LSR.DATA_READY.0 ≡ true = sym (has_one 0 line) ∙ ready in
    rw is (blocks_one (most_in s) (Hit_block line received.byte) shows)

hits_with_blocks : (s : Settings) (items : List Received) → Makes s (InOrder HitWithErrors items) [] (only_bytes items)
hits_with_blocks s [] l t = makes_only_none s l t
hits_with_blocks s (received ∷ items) l t =
    makes_then s (HitWithErrors received) (InOrder HitWithErrors items) [] [] (received.byte ∷ []) (only_bytes items)
    (hit_with_blocks s received) (λ k u. hits_with_blocks s items k u) l t

pub receives_with_blocks : (s : Settings) (n : ℕ) (items : List Received) → Makes s (ReceivesWithErrors n items) [] (only_bytes items)
receives_with_blocks s n items l (inl t) = hits_with_blocks s items l t.1
receives_with_blocks s n items l (inr t) =
    let b : InBlocks (most_in s) l [] (only_bytes items ++ []) =
    makes_then s (InOrder HitWithErrors items) Miss [] [] (only_bytes items) [] (hits_with_blocks s items) (miss_blocks s) l t.1 in
    rw (append-nil (only_bytes items)) at b
