-- The lists of languages: their accesses are good one after the other, where what is read gives no other cause.
use Rattle.std.proofs.Common.{◌≡◌, ℕ, zero, suc, Bool, true, false, not, ◌&&◌, ◌==◌, inl, inr, List, [], ◌∷◌, ◌++◌, Some}
use Rattle.std.proofs.Common.{refl, sym, ◌∙◌, ap, subst, arith, if◌then◌else◌, Result, Ok, Err, MatchBool, take, drop, bit_and, bit_or}
use Rattle.std.specs.Prelude.{nat_lt, ◌+◌, ◌*◌}
use Rattle.std.specs.List.{AllByRecursion}
use Rattle.std.proofs.lemmas.Grind.{common_steps}
use Rattle.std.proofs.lemmas.Nat.{and_assoc, and_comm}
use Rattle.std.proofs.Math.Bool.{and-true}
use Rattle.uart_spec.specs.Bits.{has}
use Rattle.uart_spec.specs.declared.access.Access.{Access as RegisterAccess}
use Rattle.uart_spec.specs.declared.access.Access.TheVariants.{Read, Write}
use Rattle.uart_spec.specs.declared.errors.ByteSendError.{ByteSendError}
use Rattle.uart_spec.specs.declared.errors.ByteSendError.TheVariants.{NoCapacity, RemoteNotClearToSend}
use Rattle.uart_spec.specs.declared.errors.ConfigurationError.{ConfigurationError}
use Rattle.uart_spec.specs.declared.errors.StalledError.{StalledError}
use Rattle.uart_spec.specs.declared.received.Received.{Received}
use Rattle.uart_spec.specs.declared.registers.fifo_control.TheConstants.FCR as fcr_bits
use Rattle.uart_spec.specs.declared.registers.interrupt_status.TheConstants.ISR as isr_bits
use Rattle.uart_spec.specs.declared.registers.line_control.TheConstants.LCR as lcr_bits
use Rattle.uart_spec.specs.declared.registers.line_status.TheConstants.LSR as lsr_bits
use Rattle.uart_spec.specs.declared.registers.modem_control.TheConstants.MCR as mcr_bits
use Rattle.uart_spec.specs.declared.registers.modem_status.TheConstants.MSR as msr_bits
use Rattle.uart_spec.specs.declared.registers.offsets.TheConstants as offsets
use Rattle.uart_16550.specs.Configured.{IsDivisor, KeepsLine, OpensLatch, ReadsLatch, Shows as ShowsOne, ShowsAll, ShowsDivisor, ShowsFifos}
use Rattle.uart_16550.specs.Configured.{ChecksConfigured, InTurn, ShowsFrame, ShowsInterrupts, ShowsOutputs, Verdict, fifo_look}
use Rattle.uart_16550.specs.Frame.{unlooped}
use Rattle.uart_16550.specs.Init.{ChecksPresence, Keeps, KeepsPatterns, frame_bits}
use Rattle.uart_16550.specs.Status.{divisor_accesses, dump_reads, retrigger_accesses}
use Rattle.uart_spec.specs.declared.config.Config.{Config}
use Rattle.uart_spec.specs.declared.dump.ConfigRegisterDump.{ConfigRegisterDump}
use Rattle.uart_chip.proofs.Bits.{and_or}
use Rattle.uart_judges_runs.proofs.Steps.{opens_latch}
use Rattle.uart_16550.specs.Grammar.{Asks, InOrder, Language, Never, Only, Settings, Then}
use Rattle.uart_16550.specs.Expansion.{SendsBeginning, SendsEach}
use Rattle.uart_16550.specs.Io.{Reads, Writes}
use Rattle.uart_16550.specs.Receive.{Awaited, Hit, HitWithErrors, Miss, Receives, ReceivesExact, ReceivesSome, ReceivesWithErrors}
use Rattle.uart_16550.specs.Transmit.{Burst, IsCut, LinesAllow, Round, SendHit, SendMiss, SendRefused, Sends, SendsExact, TrySends}
use Rattle.uart_16550.specs.Transmit.{WaitsFor, burst_size, data_writes}
use Rattle.uart_judges.specs.Findings.{enables_some}
use Rattle.uart_run.proofs.ListsInTurn.{HoldsInTurn, HoldsOfAll, all_few, all_in_order, all_misses, all_only, all_then}
use Rattle.uart_judges_runs.specs.Calls.{IsTaken}
use Rattle.uart_judges_runs.specs.Causes.{Causes, Fits, IsShownFor, ShowsFor, line_while}
use Rattle.uart_judges_runs.proofs.Settled.{Stage}
use Rattle.uart_judges_runs.proofs.Walks.{GoodRead, IsGood, by, held_by}

-- another number
pub differ : {A : Type 0} (m n : ℕ) → (m == n) ≡ false → m ≡ n → A
differ m n other e = absurd (grind (arith, common_steps))

all-take : (P : ℕ → Type 0) (n : ℕ) (bytes : List ℕ) → AllByRecursion P bytes → AllByRecursion P (take n bytes)
all-take P zero bytes p = tt
all-take P (suc n) [] p = tt
all-take P (suc n) (byte ∷ bytes) p = (p.0, all-take P n bytes p.1)

all-drop : (P : ℕ → Type 0) (n : ℕ) (bytes : List ℕ) → AllByRecursion P bytes → AllByRecursion P (drop n bytes)
all-drop P zero bytes p = p
all-drop P (suc n) [] p = tt
all-drop P (suc n) (byte ∷ bytes) p = all-drop P n bytes p.1

-- no interrupt is enabled by values that enable none
pub zero_of : (v : ℕ) → not (v == 0) ≡ false → v ≡ 0
zero_of v e = grind (arith, common_steps)

pub join_off : (ier bits : ℕ) → enables_some (Some (record { 0 = ier })) ≡ false → enables_some (Some (record { 0 = bits })) ≡ false →
    enables_some (Some (record { 0 = bit_or ier bits })) ≡ false
join_off ier bits p q =
    let x : bit_and ier 15 ≡ 0 = zero_of (bit_and ier 15) p in
    let y : bit_and bits 15 ≡ 0 = zero_of (bit_and bits 15) q in
    let z : bit_and (bit_or ier bits) 15 ≡ 0 = and_or ier bits 15 ∙ rw (x, y) refl in
    ap (λ (v : ℕ). not (v == 0)) z

pub part_off : (ier mask : ℕ) → enables_some (Some (record { 0 = ier })) ≡ false →
    enables_some (Some (record { 0 = bit_and ier mask })) ≡ false
part_off ier mask p =
    let x : bit_and ier 15 ≡ 0 = zero_of (bit_and ier 15) p in
    let z : bit_and (bit_and ier mask) 15 ≡ 0 =
    and_assoc 15 ier mask ∙ (ap (bit_and ier) (and_comm mask 15) ∙ (sym (and_assoc mask ier 15) ∙ ap (λ (v : ℕ). bit_and v mask) x)) in
    ap (λ (v : ℕ). not (v == 0)) z

module _ (c : Causes) (line : ℕ) (fifo : Bool) where
  -- what is read gives no other cause, and shows the modes as they are taken to be
  abbrev pub IsSeen : Bool → RegisterAccess → Type 0
  IsSeen opened x = IsShownFor c line opened x × IsTaken fifo opened x

  -- each access is good, if what was read up to it is seen so; and after the last of them this holds
  abbrev pub Causal : Stage → List RegisterAccess → (Stage → Type 0) → Type 0
  Causal f [] End = End f
  Causal f (x ∷ l) End = IsSeen f.opened x → IsGood c line f x × Causal (by x f) l End

  causal-append : (xs ys : List RegisterAccess) (f : Stage) (First Last : Stage → Type 0) → Causal f xs First →
      ((g : Stage) → First g → Causal g ys Last) → Causal f (xs ++ ys) Last
  causal-append [] ys f First Last p q = q f p
  causal-append (x ∷ xs) ys f First Last p q = λ t. let r = p t in (r.0, causal-append xs ys (by x f) First Last r.1 q)

module _ (c : Causes) (line : ℕ) (fifo checks : Bool) where
  -- if the driver does not check CTS, and that is no cause, then MSR did not show it clear
  abbrev pub IsClear : Bool → Type 0
  IsClear held = (c.cts_is_unchecked && c.msr_is_read) ≡ false → checks ≡ false → held ≡ false

  -- DLAB is as the first says before them, and as the second says after them
  abbrev pub Leads : (b d : Bool) → List RegisterAccess → Type 0
  Leads b d l =
      (held looked : Bool) → IsClear held →
      Causal c line fifo (record { opened = b; held = held; looked = looked }) l (λ g. (g.opened ≡ d) × IsClear g.held)

  pub leads-append : (b d e : Bool) (xs ys : List RegisterAccess) → Leads b d xs → Leads d e ys → Leads b e (xs ++ ys)
  leads-append b d e xs ys p q held looked h =
      causal-append c line fifo xs ys (record { opened = b; held = held; looked = looked }) (λ g. (g.opened ≡ d) × IsClear g.held)
      (λ g. (g.opened ≡ e) × IsClear g.held) (p held looked h)
      (λ g is. subst (λ (o : Bool). Causal c line fifo (record { opened = o; held = g.held; looked = g.looked }) ys
      (λ g. (g.opened ≡ e) × IsClear g.held)) (sym is.0) (q g.held g.looked is.1))

  pub turn : HoldsInTurn (Leads false false)
  turn = record { none = λ held looked h. (refl, h); append = leads-append false false false }

  pub then_leads : (b d e : Bool) (s : Settings) (L M : Language) → HoldsOfAll (Leads b d) s L → HoldsOfAll (Leads d e) s M →
      HoldsOfAll (Leads b e) s (Then L M)
  then_leads b d e s L M p q l t = rw t.whole (leads-append b d e t.front t.back (p t.front t.first) (q t.back t.second))

  abbrev pub AllLead : Settings → Language → Type 0
  AllLead s L = HoldsOfAll (Leads false false) s L

  -- ---- one access

  clear_if : (b x y : Bool) → (b ≡ true → IsClear x) → IsClear y → IsClear (if b then x else y)
  clear_if true x y p q = p refl
  clear_if false x y p q = q

  same : (m n : ℕ) → (m == n) ≡ true → m ≡ n
  same m n e = grind (arith, common_steps)

  -- MSR is read where the driver checks CTS, or by a call that may
  abbrev pub MayRead : ℕ → Type 0
  MayRead register = register ≡ offsets.MSR → (c.cts_is_unchecked && c.msr_is_read) ≡ false → checks ≡ false → ⊥

  clear_read : (register answer : ℕ) (held : Bool) → MayRead register → IsClear held → IsClear (held_by (Read register answer) held)
  clear_read register answer held may h =
      clear_if (register == offsets.MSR) (not (has answer msr_bits.CTS.0)) held (λ e n f. absurd (may (same register offsets.MSR e) n f)) h

  module _ (off : has line lcr_bits.DLAB.0 ≡ false) (on : c.fifos_are_off ≡ false → fifo ≡ true) where
    -- no interrupt is pending, or ISR may be read
    idle_read : (answer : ℕ) → c.isr_is_read ≡ true → (c.interrupts_are_on ≡ false → has answer isr_bits.INTERRUPT_STATUS.0 ≡ true) →
        (c.interrupts_are_on && c.isr_is_read) ≡ false → has answer isr_bits.INTERRUPT_STATUS.0 ≡ true
    idle_read answer may none e =
        none (sym (and-true c.interrupts_are_on) ∙ (ap (λ (b : Bool). c.interrupts_are_on && b) (sym may) ∙ e))

    -- a read, but not of DATA, nor of LSR while DLAB is on, nor of ISR if it is not to be read
    good_read : (f : Stage) (register answer : ℕ) → nat_lt register 8 ≡ true → (register == offsets.DATA) ≡ false →
        (register ≡ offsets.ISR → c.isr_is_read ≡ true) → (register ≡ offsets.LSR → f.opened ≡ false) →
        ShowsFor c line f.opened register answer → IsTaken fifo f.opened (Read register answer) → GoodRead c line f register answer
    good_read f register answer real other may shut shows taken = record {
      real = real;
      shows = shows;
      idle = λ is e. idle_read answer (may is) (shows.pending is) e;
      fifos = λ is e. taken.fifos is ∙ on e;
      shut = shut;
      looked = λ is e g. differ register offsets.DATA other is;
    }

    pub reads : (register answer : ℕ) → nat_lt register 8 ≡ true → (register == offsets.DATA) ≡ false →
        (register ≡ offsets.ISR → c.isr_is_read ≡ true) → MayRead register → Leads false false (Read register answer ∷ [])
    reads register answer real other may msr held looked h =
        λ t. (
          good_read (record { opened = false; held = held; looked = looked }) register answer real other may (λ is. refl) t.0 t.1,
          (refl, clear_read register answer held msr h),
        )

    -- the divisor
    good_divisor : (f : Stage) (register answer : ℕ) → f.opened ≡ true → nat_lt register 5 ≡ true → (register == offsets.ISR) ≡ false →
        ShowsFor c line f.opened register answer →
        IsTaken fifo f.opened (Read register answer) → GoodRead c line f register answer
    good_divisor f register answer is_on low other shows taken = record {
      real = grind (arith, common_steps);
      shows = shows;
      idle = λ is. differ register offsets.ISR other is;
      fifos = λ is. differ register offsets.ISR other is;
      shut = λ is. absurd (grind (arith, common_steps));
      looked = λ is e g. absurd (let h : true ≡ false = sym is_on ∙ e in cc);
    }

    pub reads_open : (register answer : ℕ) → nat_lt register 5 ≡ true → (register == offsets.ISR) ≡ false → Leads true true
        (Read register answer ∷ [])
    reads_open register answer low other held looked h =
        λ t. (
          good_divisor (record { opened = true; held = held; looked = looked }) register answer refl low other t.0 t.1,
          (refl, clear_read register answer held (λ is. absurd (grind (arith, common_steps))) h),
        )

    pub writes_line : (b : Bool) (value : ℕ) → value ≡ line_while (has value lcr_bits.DLAB.0) line →
        Leads b (has value lcr_bits.DLAB.0) (Write offsets.LCR value ∷ [])
    writes_line b value is held looked h =
        λ t. (
          record {
            real = refl;
            lcr = λ e. is;
            no_mcr = refl;
            fifos = λ e. differ 3 offsets.FCR refl e;
            shut = λ e. differ 3 offsets.DATA refl e;
            fits = λ e. differ 3 offsets.DATA refl e;
            clear = λ e. differ 3 offsets.DATA refl e;
            shut_too = λ e. differ 3 offsets.IER refl e;
            off = λ e. differ 3 offsets.IER refl e;
          },
          (refl, h),
        )

    pub writes_scratch : (value : ℕ) → Leads false false (Write offsets.SPR value ∷ [])
    writes_scratch value held looked h =
        λ t. (
          record {
            real = refl;
            lcr = λ e. differ 7 offsets.LCR refl e;
            no_mcr = refl;
            fifos = λ e. differ 7 offsets.FCR refl e;
            shut = λ e. refl;
            fits = λ e. differ 7 offsets.DATA refl e;
            clear = λ e. differ 7 offsets.DATA refl e;
            shut_too = λ e. refl;
            off = λ e. differ 7 offsets.IER refl e;
          },
          (refl, h),
        )

    pub writes_interrupts : (value : ℕ) → (c.interrupts_are_on ≡ false → enables_some (Some (record { 0 = value })) ≡ false) →
        Leads false false (Write offsets.IER value ∷ [])
    writes_interrupts value none held looked h =
        λ t. (
          record {
            real = refl;
            lcr = λ e. differ 1 offsets.LCR refl e;
            no_mcr = refl;
            fifos = λ e. differ 1 offsets.FCR refl e;
            shut = λ e. refl;
            fits = λ e. differ 1 offsets.DATA refl e;
            clear = λ e. differ 1 offsets.DATA refl e;
            shut_too = λ e. refl;
            off = λ e. none;
          },
          (refl, h),
        )

    pub writes_control : (value : ℕ) → has value fcr_bits.FIFO_ENABLE.0 ≡ true → Leads false false (Write offsets.FCR value ∷ [])
    writes_control value enables held looked h =
        λ t. (
          record {
            real = refl;
            lcr = λ e. differ 2 offsets.LCR refl e;
            no_mcr = refl;
            fifos = λ e g. enables;
            shut = λ e. refl;
            fits = λ e. differ 2 offsets.DATA refl e;
            clear = λ e. differ 2 offsets.DATA refl e;
            shut_too = λ e. refl;
            off = λ e. differ 2 offsets.IER refl e;
          },
          (refl, h),
        )

    -- bytes that fit, after CTS was checked
    writes_data : (bytes : List ℕ) (f : Stage) → (c.bytes_are_cut ≡ false → AllByRecursion (Fits line) bytes) → f.opened ≡ false →
        ((c.cts_is_unchecked && c.msr_is_read) ≡ false → f.held ≡ false) →
        Causal c line fifo f (data_writes bytes) (λ g. (g.opened ≡ false) × IsClear g.held)
    writes_data [] f fits shut clear = (shut, λ e g. clear e)
    writes_data (byte ∷ bytes) f fits shut clear =
        λ t. (
          record {
            real = refl;
            lcr = λ e. differ 0 offsets.LCR refl e;
            no_mcr = refl;
            fifos = λ e. differ 0 offsets.FCR refl e;
            shut = λ e. shut;
            fits = λ e g. (fits g).0;
            clear = λ e. clear;
            shut_too = λ e. shut;
            off = λ e. differ 0 offsets.IER refl e;
          },
          writes_data bytes f (λ e. (fits e).1) shut clear,
        )

    -- ---- languages

    pub leads_asks : (s : Settings) (register bits : ℕ) (outcome : Bool) → nat_lt register 8 ≡ true → (register == offsets.DATA) ≡ false →
        (register == offsets.ISR) ≡ false → MayRead register → AllLead s (Asks register bits outcome)
    leads_asks s register bits outcome real other no_isr msr l t =
        rw t.is (reads register t.answer real other (differ register offsets.ISR no_isr) msr)

    leads_look : (s : Settings) (bits : ℕ) (outcome : Bool) → AllLead s (Asks offsets.LSR bits outcome)
    leads_look s bits outcome = leads_asks s offsets.LSR bits outcome refl refl refl (differ offsets.LSR offsets.MSR refl)

    leads_scratch : (s : Settings) (answer : ℕ) → AllLead s (Only (Read offsets.SPR answer ∷ []))
    leads_scratch s answer l t = rw t.is (reads offsets.SPR answer refl refl (differ offsets.SPR offsets.ISR refl)
        (differ offsets.SPR offsets.MSR refl))

    pub leads_waits : (s : Settings) (bits : ℕ) (outcome : Bool) → AllLead s (WaitsFor bits outcome)
    leads_waits s bits true =
        all_then turn s _ _ (all_few turn s _ (leads_look s bits false)) (leads_look s bits true)
    leads_waits s bits false = all_misses turn s _ (leads_look s bits false)

    -- ---- receiving

    pub leads_miss : (s : Settings) → AllLead s Miss
    leads_miss s = leads_look s lsr_bits.DATA_READY.0 false

    -- a look that shows a byte, and the byte
    leads_pair : (line_status byte : ℕ) → has line_status lsr_bits.DATA_READY.0 ≡ true →
        Leads false false (Read offsets.LSR line_status ∷ Read offsets.DATA byte ∷ [])
    leads_pair line_status byte ready held looked h =
        λ t. (
          good_read (record { opened = false; held = held; looked = looked }) offsets.LSR line_status refl refl
              (differ offsets.LSR offsets.ISR refl) (λ is. refl) t.0 t.1,
          λ u. (
            record {
              real = refl;
              shows = u.0;
              idle = λ is. differ 0 offsets.ISR refl is;
              fifos = λ is. differ 0 offsets.ISR refl is;
              shut = λ is. refl;
              looked = λ is e g. ready;
            },
            (refl, h),
          ),
        )

    pub leads_hit : (s : Settings) (byte : ℕ) → AllLead s (Hit byte)
    leads_hit s byte l t = rw (t.whole, t.first.is, t.second.is) (leads_pair t.first.answer byte t.first.shows)

    pub leads_hit_with : (s : Settings) (received : Received) → AllLead s (HitWithErrors received)
    leads_hit_with s received l (line_status, ready, shown, is) = rw is (leads_pair line_status received.byte ready)

    pub leads_awaited : (s : Settings) (byte : ℕ) → AllLead s (Awaited byte)
    leads_awaited s byte = all_then turn s _ _ (all_few turn s Miss (leads_miss s)) (leads_hit s byte)

    pub leads_receives : (s : Settings) (n : ℕ) (bytes : List ℕ) → AllLead s (Receives n bytes)
    leads_receives s n bytes l (inl t) = all_in_order turn s Hit bytes (leads_hit s) l t.1
    leads_receives s n bytes l (inr t) = all_then turn s _ _ (all_in_order turn s Hit bytes (leads_hit s)) (leads_miss s) l t.1

    pub leads_receives_with : (s : Settings) (n : ℕ) (items : List Received) → AllLead s (ReceivesWithErrors n items)
    leads_receives_with s n items l (inl t) = all_in_order turn s HitWithErrors items (leads_hit_with s) l t.1
    leads_receives_with s n items l (inr t) =
        all_then turn s _ _ (all_in_order turn s HitWithErrors items (leads_hit_with s)) (leads_miss s) l t.1

    pub leads_receives_some : (s : Settings) (n : ℕ) (bytes : List ℕ) (came : Bool) → AllLead s (ReceivesSome n bytes came)
    leads_receives_some s n bytes true l t =
        all_then turn s _ _ (all_few turn s Miss (leads_miss s)) (leads_receives s n bytes) l t.1
    leads_receives_some s n bytes false l t = all_misses turn s Miss (leads_miss s) l t.1

    pub leads_receives_exact : {T : Type 0} (s : Settings) (n : ℕ) (bytes : List ℕ) (result : Result T StalledError) →
        AllLead s (ReceivesExact n bytes result)
    leads_receives_exact s n bytes (Ok x) l t = all_in_order turn s Awaited bytes (leads_awaited s) l t.1
    leads_receives_exact s n bytes (Err e) l t =
        all_then turn s _ _ (all_in_order turn s Awaited bytes (leads_awaited s)) (all_misses turn s Miss (leads_miss s)) l t.2

    pub leads_reads : (s : Settings) (n : ℕ) (bytes : List ℕ) (result : Result ℕ StalledError) → AllLead s (Reads n bytes result)
    leads_reads s n bytes (Ok count) l (same, inl (none, nothing, is)) = rw is turn.none
    leads_reads s n bytes (Ok count) l (same, inr (some, t)) = leads_receives_some s n bytes true l t
    leads_reads s n bytes (Err e) l (some, none, t) = leads_receives_some s n bytes false l t

    -- ---- the send check

    -- the driver checks CTS
    asked : checks ≡ true → (c.cts_is_unchecked && c.msr_is_read) ≡ false → checks ≡ false → ⊥
    asked e n f = let g : true ≡ false = sym e ∙ f in cc

    leads_lines : (s : Settings) → checks ≡ true → (allowed : Bool) → AllLead s (LinesAllow allowed)
    leads_lines s e allowed l (inl t) = leads_asks s offsets.MCR mcr_bits.LOOP_BACK.0 true refl refl refl
        (differ offsets.MCR offsets.MSR refl) l t.1
    leads_lines s e allowed l (inr t) =
        all_then turn s _ _ (leads_asks s offsets.MCR mcr_bits.LOOP_BACK.0 false refl refl refl (differ offsets.MCR offsets.MSR refl))
        (leads_asks s offsets.MSR msr_bits.CTS.0 allowed refl refl refl (λ is. asked e))
        l t

    leads_checked : (s : Settings) → checks ≡ true → (allowed : Bool) → AllLead s
        (Then (Asks offsets.LSR lsr_bits.THR_EMPTY.0 true) (LinesAllow allowed))
    leads_checked s e allowed = all_then turn s _ _ (leads_look s lsr_bits.THR_EMPTY.0 true) (leads_lines s e allowed)

    leads_if : (s : Settings) (b : Bool) (P Q : Language) → b ≡ checks → (checks ≡ true → AllLead s P) → AllLead s Q →
        (l : List RegisterAccess) → MatchBool b (P s l) (Q s l) → Leads false false l
    leads_if s true P Q e p q l t = p (sym e) l t
    leads_if s false P Q e p q l t = q l t

    leads_never : (s : Settings) → AllLead s Never
    leads_never s l t = absurd t

    pub leads_send_hit : (s : Settings) → s.checks ≡ checks → AllLead s SendHit
    leads_send_hit s is =
        leads_if s s.checks (Then (Asks offsets.LSR lsr_bits.THR_EMPTY.0 true) (LinesAllow true))
        (Asks offsets.LSR lsr_bits.THR_EMPTY.0 true)
        is (λ e. leads_checked s e true) (leads_look s lsr_bits.THR_EMPTY.0 true)

    pub leads_refused : (s : Settings) → s.checks ≡ checks → (e : ByteSendError) → AllLead s (SendRefused e)
    leads_refused s is NoCapacity = leads_look s lsr_bits.THR_EMPTY.0 false
    leads_refused s is RemoteNotClearToSend =
        leads_if s s.checks (Then (Asks offsets.LSR lsr_bits.THR_EMPTY.0 true) (LinesAllow false)) Never is (λ e. leads_checked s e false)
        (leads_never s)

    pub leads_send_miss : (s : Settings) → s.checks ≡ checks → AllLead s SendMiss
    leads_send_miss s is l t = leads_refused s is t.0 l t.1

    -- after a check that hits CTS is known to be set
    looped_not : {A : Type 0} (answer : ℕ) → has answer mcr_bits.LOOP_BACK.0 ≡ true → has answer mcr_bits.LOOP_BACK.0 ≡ false → A
    looped_not answer e g = absurd (let h : true ≡ false = sym e ∙ g in cc)

    abbrev MaySend : Stage → Type 0
    MaySend g = (g.opened ≡ false) × ((c.cts_is_unchecked && c.msr_is_read) ≡ false → g.held ≡ false)

    lines_clear : (s : Settings) (l : List RegisterAccess) → LinesAllow true s l → (held looked : Bool) →
        Causal c line fifo (record { opened = false; held = held; looked = looked }) l MaySend
    lines_clear s l (inl t) held looked = rw t.1.is (λ seen. looped_not t.1.answer t.1.shows (seen.1.loopback refl))
    lines_clear s l (inr t) held looked =
        let f : Stage = record { opened = false; held = held; looked = looked } in
        rw (t.whole, t.first.is, t.second.is)
        (λ seen. (
          good_read f offsets.MCR t.first.answer refl refl (differ offsets.MCR offsets.ISR refl) (λ is. refl) seen.0 seen.1,
          λ shown. (
            good_read f offsets.MSR t.second.answer refl refl (differ offsets.MSR offsets.ISR refl) (λ is. refl) shown.0 shown.1,
            (refl, λ e. ap not t.second.shows),
          ),
        ))

    hit_clear : (s : Settings) (b : Bool) (l : List RegisterAccess) → b ≡ checks →
        MatchBool b (Then (Asks offsets.LSR lsr_bits.THR_EMPTY.0 true) (LinesAllow true) s l)
        (Asks offsets.LSR lsr_bits.THR_EMPTY.0 true s l) →
        (held looked : Bool) → IsClear held → Causal c line fifo (record { opened = false; held = held; looked = looked }) l MaySend
    hit_clear s true l is t held looked h =
        let f : Stage = record { opened = false; held = held; looked = looked } in
        rw (t.whole, t.first.is)
        (λ seen. (
          good_read f offsets.LSR t.first.answer refl refl (differ offsets.LSR offsets.ISR refl) (λ is. refl) seen.0 seen.1,
          lines_clear s t.back t.second held (has t.first.answer lsr_bits.DATA_READY.0),
        ))
    hit_clear s false l is t held looked h =
        let f : Stage = record { opened = false; held = held; looked = looked } in
        rw t.is
        (λ seen. (
          good_read f offsets.LSR t.answer refl refl (differ offsets.LSR offsets.ISR refl) (λ is. refl) seen.0 seen.1,
          (refl, λ e. h e (sym is)),
        ))

    -- ---- sending

    module _ (s : Settings) (as_set : s.checks ≡ checks) where
      leads_writes : (bytes : List ℕ) → (c.bytes_are_cut ≡ false → AllByRecursion (Fits line) bytes) → (hit : List RegisterAccess) →
          SendHit s hit → Leads false false (hit ++ data_writes bytes)
      leads_writes bytes fits hit t held looked h =
          causal-append c line fifo hit (data_writes bytes) (record { opened = false; held = held; looked = looked }) MaySend
          (λ g. (g.opened ≡ false) × IsClear g.held) (hit_clear s s.checks hit as_set t held looked h)
          (λ g e. writes_data bytes g fits e.0 e.1)

      leads_burst : (bytes : List ℕ) → (c.bytes_are_cut ≡ false → AllByRecursion (Fits line) bytes) → AllLead s (Burst bytes)
      leads_burst bytes fits l t = rw (t.whole, t.second.is) (leads_writes bytes fits t.front t.first)

      pub leads_round : (bytes : List ℕ) → (c.bytes_are_cut ≡ false → AllByRecursion (Fits line) bytes) → AllLead s (Round bytes)
      leads_round bytes fits = all_then turn s _ _ (all_few turn s SendMiss (leads_send_miss s as_set)) (leads_burst bytes fits)

      pub leads_sends : (bytes : List ℕ) (n : ℕ) → (c.bytes_are_cut ≡ false → AllByRecursion (Fits line) bytes) → AllLead s (Sends bytes n)
      leads_sends bytes n fits l (inl t) = rw t.2 turn.none
      leads_sends bytes n fits l (inr (inl t)) = leads_send_miss s as_set l t.2
      leads_sends bytes n fits l (inr (inr t)) = leads_burst (take n bytes) (λ e. all-take (Fits line) n bytes (fits e)) l t.2

      pub leads_try_sends : {T : Type 0} (byte : ℕ) (result : Result T ByteSendError) →
          (c.bytes_are_cut ≡ false → AllByRecursion (Fits line) (byte ∷ [])) → AllLead s (TrySends byte result)
      leads_try_sends byte (Ok x) fits l t = leads_sends (byte ∷ []) 1 fits l t
      leads_try_sends byte (Err NoCapacity) fits l t = leads_sends (byte ∷ []) 0 fits l t
      leads_try_sends byte (Err RemoteNotClearToSend) fits l t = absurd t

      leads_pieces : (bytes : List ℕ) (pieces : List (List ℕ)) (rest : List ℕ) →
          (c.bytes_are_cut ≡ false → AllByRecursion (Fits line) bytes) →
          IsCut s bytes pieces rest → AllLead s (InOrder Round pieces)
      leads_pieces bytes [] rest fits cut l t = rw t.is turn.none
      leads_pieces bytes (piece ∷ pieces) rest fits cut l t =
          let size = burst_size s bytes in
          let first : c.bytes_are_cut ≡ false → AllByRecursion (Fits line) piece =
          λ e. subst (λ (bytes : List ℕ). AllByRecursion (Fits line) bytes) (sym cut.1) (all-take (Fits line) size bytes (fits e)) in
          all_then turn s _ _ (leads_round piece first)
          (λ k u. leads_pieces (drop size bytes) pieces rest (λ e. all-drop (Fits line) size bytes (fits e)) cut.2 k u) l t

      pub leads_sends_exact : {T : Type 0} (bytes : List ℕ) (result : Result T StalledError) →
          (c.bytes_are_cut ≡ false → AllByRecursion (Fits line) bytes) → AllLead s (SendsExact bytes result)
      leads_sends_exact bytes (Ok x) fits l t = leads_pieces bytes t.0 [] fits t.1 l t.2
      leads_sends_exact bytes (Err e) fits l (pieces, rest, cut, some, count, made) =
          all_then turn s _ _ (leads_pieces bytes pieces rest fits cut) (all_misses turn s SendMiss (leads_send_miss s as_set)) l made

      pub leads_writes_some : (bytes : List ℕ) (result : Result ℕ StalledError) →
          (c.bytes_are_cut ≡ false → AllByRecursion (Fits line) bytes) → AllLead s (Writes bytes result)
      leads_writes_some bytes (Ok count) fits l (inl (none, nothing, is)) = rw is turn.none
      leads_writes_some bytes (Ok count) fits l (inr (some, t)) =
          leads_round (take count bytes) (λ e. all-take (Fits line) count bytes (fits e)) l t.1
      leads_writes_some bytes (Err e) fits l (some, none, t) = all_misses turn s SendMiss (leads_send_miss s as_set) l t

      pub leads_sends_each : (bytes : List ℕ) → (c.bytes_are_cut ≡ false → AllByRecursion (Fits line) bytes) → AllLead s (SendsEach bytes)
      leads_sends_each [] fits l t = rw t.is turn.none
      leads_sends_each (byte ∷ bytes) fits l t =
          all_then turn s _ _ (leads_round (byte ∷ []) (λ e. ((fits e).0, tt))) (λ k u. leads_sends_each bytes (λ e. (fits e).1) k u) l t

      pub leads_sends_beginning : (bytes : List ℕ) (n : ℕ) → (c.bytes_are_cut ≡ false → AllByRecursion (Fits line) bytes) →
          AllLead s (SendsBeginning bytes n)
      leads_sends_beginning bytes n fits l t =
          all_then turn s _ _ (leads_sends_each (take n bytes) (λ e. all-take (Fits line) n bytes (fits e)))
          (all_misses turn s SendMiss (leads_send_miss s as_set)) l t.1

    -- ---- the scratch register, the divisor, and IER

    leads_pattern : (s : Settings) (pattern : ℕ) (outcome : Bool) → AllLead s (Keeps pattern outcome)
    leads_pattern s pattern outcome l (back, kept, is) =
        rw is (leads-append false false false (Write offsets.SPR pattern ∷ []) (Read offsets.SPR back ∷ []) (writes_scratch pattern)
        (reads offsets.SPR back refl refl (differ offsets.SPR offsets.ISR refl) (differ offsets.SPR offsets.MSR refl)))

    leads_patterns : (s : Settings) (present : Bool) → AllLead s (KeepsPatterns present)
    leads_patterns s true l t = all_then turn s _ _ (leads_pattern s 66 true) (leads_pattern s 115 true) l t
    leads_patterns s false l (inl t) = leads_pattern s 66 false l t
    leads_patterns s false l (inr t) = all_then turn s _ _ (leads_pattern s 66 true) (leads_pattern s 115 false) l t

    pub leads_presence : (s : Settings) (present : Bool) → AllLead s (ChecksPresence present)
    leads_presence s present l (old, t) =
        all_then turn s _ _ (leads_scratch s old)
        (λ k u. all_then turn s _ _ (leads_patterns s present) (all_only turn s (Write offsets.SPR old ∷ []) (writes_scratch old)) k u) l t

    -- LCR as it is, with DLAB on and off
    opens : (lcr : ℕ) → lcr ≡ line → Leads false true (Write offsets.LCR (bit_or lcr lcr_bits.DLAB.0) ∷ [])
    opens lcr is =
        let value : ℕ = bit_or lcr lcr_bits.DLAB.0 in
        let opened : has value lcr_bits.DLAB.0 ≡ true = opens_latch lcr in
        let kept : value ≡ line_while (has value lcr_bits.DLAB.0) line =
        ap (λ (v : ℕ). bit_or v lcr_bits.DLAB.0) is ∙ sym (ap (λ (b : Bool). line_while b line) opened) in
        subst (λ (b : Bool). Leads false b (Write offsets.LCR value ∷ [])) opened (writes_line false value kept)

    closes : (b : Bool) (lcr : ℕ) → lcr ≡ line → Leads b false (Write offsets.LCR lcr ∷ [])
    closes b lcr is =
        let shut : has lcr lcr_bits.DLAB.0 ≡ false = ap (λ (v : ℕ). has v lcr_bits.DLAB.0) is ∙ off in
        let kept : lcr ≡ line_while (has lcr lcr_bits.DLAB.0) line = is ∙ sym (ap (λ (b : Bool). line_while b line) shut) in
        subst (λ (d : Bool). Leads b d (Write offsets.LCR lcr ∷ [])) shut (writes_line b lcr kept)

    latch_reads : (low high : ℕ) → Leads true true (Read offsets.DLL low ∷ Read offsets.DLM high ∷ [])
    latch_reads low high =
        leads-append true true true (Read offsets.DLL low ∷ []) (Read offsets.DLM high ∷ []) (reads_open offsets.DLL low refl refl)
        (reads_open offsets.DLM high refl refl)

    pub leads_divisor : (lcr low high : ℕ) → Leads false false (divisor_accesses lcr low high)
    leads_divisor lcr low high held looked h =
        λ t. let is : lcr ≡ line = t.0.lcr refl in
        leads-append false false false (Read offsets.LCR lcr ∷ [])
        (Write offsets.LCR (bit_or lcr lcr_bits.DLAB.0) ∷ Read offsets.DLL low ∷ Read offsets.DLM high ∷ Write offsets.LCR lcr ∷ [])
        (reads offsets.LCR lcr refl refl (differ offsets.LCR offsets.ISR refl) (differ offsets.LCR offsets.MSR refl))
        (leads-append false true false (Write offsets.LCR (bit_or lcr lcr_bits.DLAB.0) ∷ [])
        (Read offsets.DLL low ∷ Read offsets.DLM high ∷ Write offsets.LCR lcr ∷ []) (opens lcr is)
        (leads-append true true false (Read offsets.DLL low ∷ Read offsets.DLM high ∷ []) (Write offsets.LCR lcr ∷ [])
        (latch_reads low high)
        (closes true lcr is))) held looked h t

    -- IER is read, and then nothing is written that is not so harmless
    leads_changes : (ier value : ℕ) →
        ((c.interrupts_are_on ≡ false → enables_some (Some (record { 0 = ier })) ≡ false) →
        c.interrupts_are_on ≡ false → enables_some (Some (record { 0 = value })) ≡ false) →
        Leads false false (Read offsets.IER ier ∷ Write offsets.IER value ∷ [])
    leads_changes ier value none held looked h =
        λ t. leads-append false false false (Read offsets.IER ier ∷ []) (Write offsets.IER value ∷ [])
        (reads offsets.IER ier refl refl (differ offsets.IER offsets.ISR refl) (differ offsets.IER offsets.MSR refl))
        (writes_interrupts value (none (λ e. t.0.enabled refl refl e))) held looked h t

    pub leads_enables : (ier bits : ℕ) → (c.interrupts_are_on ≡ false → enables_some (Some (record { 0 = bits })) ≡ false) →
        Leads false false (Read offsets.IER ier ∷ Write offsets.IER (bit_or ier bits) ∷ [])
    leads_enables ier bits none = leads_changes ier (bit_or ier bits) (λ before e. join_off ier bits (before e) (none e))

    pub leads_disables : (ier mask : ℕ) → Leads false false (Read offsets.IER ier ∷ Write offsets.IER (bit_and ier mask) ∷ [])
    leads_disables ier mask = leads_changes ier (bit_and ier mask) (λ before e. part_off ier mask (before e))

    pub leads_retriggers : (ier : ℕ) → Leads false false (retrigger_accesses ier)
    leads_retriggers ier held looked h =
        λ t. leads-append false false false (Read offsets.IER ier ∷ Write offsets.IER 0 ∷ []) (Write offsets.IER ier ∷ [])
        (leads_changes ier 0 (λ before e. refl)) (writes_interrupts ier (λ e. t.0.enabled refl refl e)) held looked h t

    also : (register answer : ℕ) (l : List RegisterAccess) → nat_lt register 8 ≡ true → (register == offsets.DATA) ≡ false →
        (register ≡ offsets.ISR → c.isr_is_read ≡ true) → MayRead register → Leads false false l → Leads false false
        (Read register answer ∷ l)
    also register answer l real other may msr rest =
        leads-append false false false (Read register answer ∷ []) l (reads register answer real other may msr) rest

    pub leads_dump : c.isr_is_read ≡ true → ((c.cts_is_unchecked && c.msr_is_read) ≡ false → checks ≡ false → ⊥) → (lcr lsr msr : ℕ)
        (dump : ConfigRegisterDump) →
        Leads false false (divisor_accesses lcr dump.dll dump.dlm ++ dump_reads lsr msr dump)
    leads_dump may asks lcr lsr msr dump =
        let seventh : List RegisterAccess = Read offsets.SPR dump.spr ∷ [] in
        let sixth : List RegisterAccess = Read offsets.MSR msr ∷ seventh in
        let fifth : List RegisterAccess = Read offsets.LSR lsr ∷ sixth in
        let fourth : List RegisterAccess = Read offsets.MCR dump.mcr.0 ∷ fifth in
        let third : List RegisterAccess = Read offsets.LCR dump.lcr.0 ∷ fourth in
        let second : List RegisterAccess = Read offsets.ISR dump.isr.0 ∷ third in
        leads-append false false false (divisor_accesses lcr dump.dll dump.dlm) (dump_reads lsr msr dump)
        (leads_divisor lcr dump.dll dump.dlm)
        (also offsets.IER dump.ier.0 second refl refl (differ offsets.IER offsets.ISR refl) (differ offsets.IER offsets.MSR refl)
        (also offsets.ISR dump.isr.0 third refl refl (λ is. may) (differ offsets.ISR offsets.MSR refl)
        (also offsets.LCR dump.lcr.0 fourth refl refl (differ offsets.LCR offsets.ISR refl) (differ offsets.LCR offsets.MSR refl)
        (also offsets.MCR dump.mcr.0 fifth refl refl (differ offsets.MCR offsets.ISR refl) (differ offsets.MCR offsets.MSR refl)
        (also offsets.LSR lsr sixth refl refl (differ offsets.LSR offsets.ISR refl) (differ offsets.LSR offsets.MSR refl)
        (also offsets.MSR msr seventh refl refl (differ offsets.MSR offsets.ISR refl) (λ is. asks)
        (reads offsets.SPR dump.spr refl refl (differ offsets.SPR offsets.ISR refl) (differ offsets.SPR offsets.MSR refl))))))))

    -- ---- `check_configured`

    module _ (s : Settings) where
      in_turn_leads : (b d e : Bool) (P Q : Verdict → Language) → ((u : Unit {0}) → HoldsOfAll (Leads b d) s (P (Ok u))) →
          ((f : ConfigurationError) → HoldsOfAll (Leads b e) s (P (Err f))) → ((v : Verdict) → HoldsOfAll (Leads d e) s (Q v)) →
          (v : Verdict) → HoldsOfAll (Leads b e) s (InTurn P Q v)
      in_turn_leads b d e P Q p n q (Ok u) l t = then_leads b d e s (P (Ok u)) (Q (Ok u)) (p u) (q (Ok u)) l t
      in_turn_leads b d e P Q p n q (Err f) l (inl t) = n f l t
      in_turn_leads b d e P Q p n q (Err f) l (inr t) = then_leads b d e s (P (Ok tt)) (Q (Err f)) (p tt) (q (Err f)) l t

      shows_leads : (register : ℕ) (IsRight : ℕ → Type 0) (fault : ℕ → ConfigurationError) (b : Bool) →
          ((answer : ℕ) → Leads b b (Read register answer ∷ [])) → (v : Verdict) → HoldsOfAll (Leads b b) s
          (ShowsOne register IsRight fault v)
      shows_leads register IsRight fault b one (Ok x) l (shown, right, is) = rw is (one shown)
      shows_leads register IsRight fault b one (Err e) l (shown, wrong, told, is) = rw is (one shown)

      line_leads : (b d : Bool) (value : ℕ) → Leads b d (Write offsets.LCR value ∷ []) →
          ((answer : ℕ) → Leads d d (Read offsets.LCR answer ∷ [])) →
          (v : Verdict) → HoldsOfAll (Leads b d) s (KeepsLine value v)
      line_leads b d value write one v =
          then_leads b d d s (Only (Write offsets.LCR value ∷ [])) _ (λ l t. rw t.is write) (shows_leads offsets.LCR _ _ d one v)

      opens_leads : (lcr : ℕ) → lcr ≡ line → HoldsOfAll (Leads false true) s (OpensLatch lcr (Ok tt))
      opens_leads lcr is = line_leads false true (bit_or lcr lcr_bits.DLAB.0) (opens lcr is)
          (λ answer. reads_open offsets.LCR answer refl refl) (Ok tt)

      ignored_leads : (lcr : ℕ) → lcr ≡ line → (e : ConfigurationError) → HoldsOfAll (Leads false false) s (OpensLatch lcr (Err e))
      ignored_leads lcr is e =
          then_leads false true false s (KeepsLine (bit_or lcr lcr_bits.DLAB.0) (Err e)) (Only (Write offsets.LCR lcr ∷ []))
          (line_leads false true (bit_or lcr lcr_bits.DLAB.0) (opens lcr is) (λ answer. reads_open offsets.LCR answer refl refl) (Err e))
          (λ l t. rw t.is (closes true lcr is))

      divisor_leads : (divisor shown : ℕ) (v : Verdict) → HoldsOfAll (Leads false false) s (IsDivisor divisor shown v)
      divisor_leads divisor shown (Ok x) l t = rw t.1 turn.none
      divisor_leads divisor shown (Err e) l t = rw t.2 turn.none

      closes_leads : (lcr : ℕ) → lcr ≡ line → (v : Verdict) → HoldsOfAll (Leads true false) s (KeepsLine lcr v)
      closes_leads lcr is = line_leads true false lcr (closes true lcr is)
          (λ answer. reads offsets.LCR answer refl refl (differ offsets.LCR offsets.ISR refl) (differ offsets.LCR offsets.MSR refl))

      latch_leads : (divisor lcr : ℕ) → lcr ≡ line → (v : Verdict) → HoldsOfAll (Leads true false) s (ReadsLatch divisor lcr v)
      latch_leads divisor lcr is v l (low, high, t) =
          then_leads true true false s (Only (Read offsets.DLL low ∷ Read offsets.DLM high ∷ [])) _ (λ k u. rw u.is (latch_reads low high))
          (in_turn_leads true false false (KeepsLine lcr) (IsDivisor divisor (256 * high + low)) (λ u. closes_leads lcr is (Ok u))
          (λ f. closes_leads lcr is (Err f)) (divisor_leads divisor (256 * high + low)) v) l t

      after_line : (divisor lcr : ℕ) → lcr ≡ line → (v : Verdict) → AllLead s (InTurn (OpensLatch lcr) (ReadsLatch divisor lcr) v)
      after_line divisor lcr is =
          in_turn_leads false true false (OpensLatch lcr) (ReadsLatch divisor lcr) (λ u. opens_leads lcr is) (ignored_leads lcr is)
          (latch_leads divisor lcr is)

      shows_divisor_leads : (divisor : ℕ) (v : Verdict) → AllLead s (ShowsDivisor divisor v)
      shows_divisor_leads divisor v l (lcr, t) =
          rw (t.whole, t.first.is)
          (λ held looked h sees. leads-append false false false (Read offsets.LCR lcr ∷ []) t.back
          (reads offsets.LCR lcr refl refl (differ offsets.LCR offsets.ISR refl) (differ offsets.LCR offsets.MSR refl))
          (after_line divisor lcr (sees.0.lcr refl) v t.back t.second) held looked h sees)

      fifo_leads : c.isr_is_read ≡ true → (interrupts isr : ℕ) →
          (c.interrupts_are_on ≡ false → enables_some (Some (record { 0 = interrupts })) ≡ false) →
          Leads false false (fifo_look interrupts isr)
      fifo_leads may interrupts isr none =
          leads-append false false false (Write offsets.IER 0 ∷ []) (Read offsets.ISR isr ∷ Write offsets.IER interrupts ∷ [])
          (writes_interrupts 0 (λ e. refl))
          (leads-append false false false (Read offsets.ISR isr ∷ []) (Write offsets.IER interrupts ∷ [])
          (reads offsets.ISR isr refl refl (λ is. may) (differ offsets.ISR offsets.MSR refl))
          (writes_interrupts interrupts none))

      shows_fifos_leads : c.isr_is_read ≡ true → (interrupts : ℕ) →
          (c.interrupts_are_on ≡ false → enables_some (Some (record { 0 = interrupts })) ≡ false) →
          (v : Verdict) → AllLead s (ShowsFifos interrupts v)
      shows_fifos_leads may interrupts none (Ok x) l (isr, same, is) = rw is (fifo_leads may interrupts isr none)
      shows_fifos_leads may interrupts none (Err e) l (isr, wrong, told, is) = rw is (fifo_leads may interrupts isr none)

      -- IER shows these interrupts, so what comes then may write them
      shown_leads : (interrupts : ℕ) (Q : Verdict → Language) →
          ((c.interrupts_are_on ≡ false → enables_some (Some (record { 0 = interrupts })) ≡ false) → (v : Verdict) → AllLead s (Q v)) →
          (v : Verdict) (l : List RegisterAccess) → ShowsInterrupts interrupts (Ok tt) s l → (back : List RegisterAccess) →
          Q v s back → Leads false false (l ++ back)
      shown_leads interrupts Q q v l (shown, right, is) back t =
          rw is
          (λ held looked h seen. leads-append false false false (Read offsets.IER shown ∷ []) back
          (reads offsets.IER shown refl refl (differ offsets.IER offsets.ISR refl) (differ offsets.IER offsets.MSR refl))
          (q (λ e. ap (λ (x : ℕ). enables_some (Some (record { 0 = x }))) (sym right) ∙ seen.0.enabled refl refl e) v back t)
          held looked h seen)

      enabled_leads : (interrupts : ℕ) (Q : Verdict → Language) →
          ((c.interrupts_are_on ≡ false → enables_some (Some (record { 0 = interrupts })) ≡ false) → (v : Verdict) → AllLead s (Q v)) →
          (v : Verdict) → AllLead s (InTurn (ShowsInterrupts interrupts) Q v)
      enabled_leads interrupts Q q (Ok tt) l t = rw t.whole (shown_leads interrupts Q q (Ok tt) t.front t.first t.back t.second)
      enabled_leads interrupts Q q (Err e) l (inl (shown, wrong, told, is)) =
          rw is (reads offsets.IER shown refl refl (differ offsets.IER offsets.ISR refl) (differ offsets.IER offsets.MSR refl))
      enabled_leads interrupts Q q (Err e) l (inr t) = rw t.whole (shown_leads interrupts Q q (Err e) t.front t.first t.back t.second)

      all_leads : c.isr_is_read ≡ true → (frame outputs interrupts divisor : ℕ) (v : Verdict) →
          AllLead s (ShowsAll frame outputs interrupts divisor v)
      all_leads may frame outputs interrupts divisor =
          let latch : Verdict → Language = InTurn (ShowsDivisor divisor) (ShowsFifos interrupts) in
          let enabled : Verdict → Language = InTurn (ShowsInterrupts interrupts) latch in
          let control : Verdict → Language = InTurn (ShowsOutputs outputs) enabled in
          let frames = shows_leads offsets.LCR _ _ false
          (λ answer. reads offsets.LCR answer refl refl (differ offsets.LCR offsets.ISR refl) (differ offsets.LCR offsets.MSR refl)) in
          let outs = shows_leads offsets.MCR _ _ false
          (λ answer. reads offsets.MCR answer refl refl (differ offsets.MCR offsets.ISR refl) (differ offsets.MCR offsets.MSR refl)) in
          in_turn_leads false false false (ShowsFrame frame) control (λ u. frames (Ok u)) (λ f. frames (Err f))
          (in_turn_leads false false false (ShowsOutputs outputs) enabled (λ u. outs (Ok u)) (λ f. outs (Err f))
          (enabled_leads interrupts latch
          (λ none. in_turn_leads false false false (ShowsDivisor divisor) (ShowsFifos interrupts) (λ u. shows_divisor_leads divisor (Ok u))
          (λ f. shows_divisor_leads divisor (Err f)) (shows_fifos_leads may interrupts none))))

      pub leads_check : c.isr_is_read ≡ true → (config : Config) (outputs : ℕ) (v : Verdict) → AllLead s (ChecksConfigured config outputs v)
      leads_check may config outputs (Ok u) l (divisor, is, t) =
          all_leads may (frame_bits config) (unlooped outputs) config.interrupts.0 divisor (Ok u) l t
      leads_check may config outputs (Err e) l (inl (nothing, told, is)) = rw is turn.none
      leads_check may config outputs (Err e) l (inr (divisor, is, t)) =
          all_leads may (frame_bits config) (unlooped outputs) config.interrupts.0 divisor (Err e) l t
