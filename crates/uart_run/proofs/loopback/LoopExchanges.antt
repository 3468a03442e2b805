-- What the exchange of a loopback test comes to: all comes back as it was sent, or a wait was in vain.
use Rattle.uart_run.proofs.Names.{◌≡◌, ◌<◌, ◌⊎◌, ℕ, min, Bool, true, false, inl, inr, List, [], ◌∷◌, map, nat_lt, if◌then◌else◌, Result, Ok}
use Rattle.uart_run.proofs.Names.{Err, refl, ◌∙◌, arith, common_steps, ByteSendError, NoCapacity, RemoteNotClearToSend, LoopbackError}
use Rattle.uart_run.proofs.Names.{SendError, UnexpectedLoopbackByte, UnexpectedLoopbackMsg, FifoSize, Path, Access, Settings, Then}
use Rattle.uart_run.proofs.Names.{burst_limit, Sends, TrySends, some_limit, test_byte, test_message, DrainsLoopback, ExchangesByte}
use Rattle.uart_run.proofs.Names.{ExchangesMessage, Exchanges, MachineState, MachineStep, Modes}
use Rattle.uart_spec.specs.declared.errors.LoopbackError.TheVariants.{Stalled}
use Rattle.uart_run.proofs.Pieces.{then_parts}
use Rattle.uart_run.proofs.loopback.LoopPhases.{IsEntered, IsReadyToTest, drained, byte_exchanged, message_exchanged, never_refused}

-- so characters are cut: narrow, so that the test byte is another, or so that no byte of the test is
abbrev pub Cuts : Bool → (ℕ → ℕ) → Type 0
Cuts false cut = (byte : ℕ) → byte < 128 → cut byte ≡ byte
Cuts true cut = cut test_byte ≡ 2

-- a step of the test leads on, or is refused so
abbrev pub LeadsTo : {T : Type 0} → Bool → Type 0 → Result T LoopbackError → Type 0
LeadsTo narrow Goal (Ok x) = (narrow ≡ false) × Goal
LeadsTo narrow Goal (Err e) = (e ≡ Stalled) ⊎ ((narrow ≡ true) × (e ≡ UnexpectedLoopbackByte test_byte 2) × Goal)

pub leads_on : {T : Type 0} (narrow : Bool) (P Q : Type 0) (result : Result T LoopbackError) → (P → Q) → LeadsTo narrow P result →
    LeadsTo narrow Q result
leads_on narrow P Q (Ok x) f p = (p.0, f p.1)
leads_on narrow P Q (Err e) f (inl p) = inl p
leads_on narrow P Q (Err e) f (inr p) = inr (p.0, p.1, f p.2)

-- ---- the byte

some_room : (fifo : Bool) (size : FifoSize) → 0 ≡ min 1 (burst_limit fifo size) → ⊥
some_room fifo size e = let some = some_limit fifo size in omega (arith, e, some)

-- it is sent at once
byte_never_refused : (x : Modes) (gone : List ℕ) (s : Settings) (e : ByteSendError) (l : List Access) (m n : MachineState) →
    IsReadyToTest x gone s m → TrySends {T = Unit {0}} test_byte (Err e) s l → Path MachineStep m l n → ⊥
byte_never_refused x gone s NoCapacity l m n r t path = go t
  where
    go : Sends (test_byte ∷ []) 0 s l → ⊥
    go (inl h) = omega (arith, h.0)
    go (inr (inl h)) = never_refused x gone s h.2.0 l m n r h.2.1 path
    go (inr (inr h)) = some_room s.fifo s.size h.1
byte_never_refused x gone s RemoteNotClearToSend l m n r t path = t

byte_leads : {T : Type 0} (narrow : Bool) (x : Modes) (gone : List ℕ) (s : Settings) (result : Result T LoopbackError) (l : List Access)
    (m n : MachineState) → Cuts narrow x.cut → IsReadyToTest x gone s m → ExchangesByte result s l → Path MachineStep m l n →
    LeadsTo narrow (IsReadyToTest x gone s n) result
byte_leads false x gone s (Ok v) l m n c r t path = (refl, (byte_exchanged x gone s test_byte l m n r t path).ready)
byte_leads true x gone s (Ok v) l m n c r t path =
    let a = byte_exchanged x gone s test_byte l m n r t path in
    let same : test_byte ≡ x.cut test_byte = cc (a.same) in
    let other : test_byte ≡ 2 = same ∙ c in absurd (omega (arith, other))
byte_leads narrow x gone s (Err (SendError e)) l m n c r t path = absurd (byte_never_refused x gone s e l m n r t path)
byte_leads narrow x gone s (Err Stalled) l m n c r t path = inl refl
byte_leads false x gone s (Err (UnexpectedLoopbackByte expected actual)) l m n c r t path =
    let a = byte_exchanged x gone s actual l m n r t.2 path in
    let same : actual ≡ x.cut test_byte = cc (a.same) in
    absurd (t.1 (same ∙ c test_byte (omega arith)))
byte_leads true x gone s (Err (UnexpectedLoopbackByte expected actual)) l m n c r t path =
    let a = byte_exchanged x gone s actual l m n r t.2 path in
    let same : actual ≡ x.cut test_byte = cc (a.same) in
    let told : UnexpectedLoopbackByte expected actual ≡ UnexpectedLoopbackByte test_byte 2 = cc (t.0, same, c) in
    inr (refl, told, a.ready)
byte_leads narrow x gone s (Err (UnexpectedLoopbackMsg expected actual)) l m n c r t path = absurd t

-- ---- the message

-- these bytes have 7 bits
abbrev all_small : List ℕ → Bool
all_small [] = true
all_small (byte ∷ bytes) = if nat_lt byte 128 then all_small bytes else false

small_whole : (cut : ℕ → ℕ) (bytes : List ℕ) → Cuts false cut → all_small bytes ≡ true → map cut bytes ≡ bytes
small_whole cut [] c e = refl
small_whole cut (byte ∷ bytes) c e = go (nat_lt byte 128) refl (λ rest. small_whole cut bytes c rest)
  where
    go : (b : Bool) → nat_lt byte 128 ≡ b → (all_small bytes ≡ true → map cut bytes ≡ bytes) → map cut (byte ∷ bytes) ≡ byte ∷ bytes
    go true f more =
        let few : byte < 128 = grind (arith, common_steps) in
        let rest : all_small bytes ≡ true = rw f at e in
        cc (c byte few, more rest)
    go false f more = let g : false ≡ true = rw f at e in absurd (cc)

message_whole : (cut : ℕ → ℕ) → Cuts false cut → map cut test_message ≡ test_message
message_whole cut c = small_whole cut test_message c refl

message_leads : {T : Type 0} (x : Modes) (gone : List ℕ) (s : Settings) (result : Result T LoopbackError) (l : List Access)
    (m n : MachineState) → Cuts false x.cut → IsReadyToTest x gone s m → ExchangesMessage result s l → Path MachineStep m l n →
    LeadsTo false (IsReadyToTest x gone s n) result
message_leads x gone s (Ok v) l m n c r t path = (refl, (message_exchanged x gone s test_message l m n r refl t path).ready)
message_leads x gone s (Err (SendError e)) l m n c r t path = absurd t
message_leads x gone s (Err Stalled) l m n c r t path = inl refl
message_leads x gone s (Err (UnexpectedLoopbackByte expected actual)) l m n c r t path = absurd t
message_leads x gone s (Err (UnexpectedLoopbackMsg expected actual)) l m n c r t path =
    absurd (t.1 ((message_exchanged x gone s actual l m n r t.2 t.3 path).same ∙ message_whole x.cut c))

-- the byte, and then the message
both_lead : {T : Type 0} (narrow : Bool) (x : Modes) (gone : List ℕ) (s : Settings) (result : Result T LoopbackError) (l : List Access)
    (m n : MachineState) → Cuts narrow x.cut → IsReadyToTest x gone s m →
    Then (ExchangesByte {T = Unit {0}} (Ok tt)) (ExchangesMessage result) s l → Path MachineStep m l n →
    LeadsTo narrow (IsReadyToTest x gone s n) result
both_lead false x gone s result l m n c r t path =
    let p = then_parts (ExchangesByte {T = Unit {0}} (Ok tt)) (ExchangesMessage result) s l m n t path in
    let a = byte_leads {T = Unit {0}} false x gone s (Ok tt) p.front m p.between c r p.first p.before in
    message_leads x gone s result p.back p.between n c a.1 p.second p.after
both_lead true x gone s result l m n c r t path =
    let p = then_parts (ExchangesByte {T = Unit {0}} (Ok tt)) (ExchangesMessage result) s l m n t path in
    let a = byte_leads {T = Unit {0}} true x gone s (Ok tt) p.front m p.between c r p.first p.before in
    absurd (cc (a.0))

-- ---- all of it

pub exchange_leads : {T : Type 0} (narrow : Bool) (x : Modes) (gone : List ℕ) (s : Settings) (result : Result T LoopbackError)
    (l : List Access) (m n : MachineState) → Cuts narrow x.cut → IsEntered x gone s m → Exchanges result s l → Path MachineStep m l n →
    LeadsTo narrow (IsReadyToTest x gone s n) result
exchange_leads narrow x gone s (Ok v) l m n c e t path =
    let p = then_parts (DrainsLoopback true) (Then (ExchangesByte (Ok v)) (ExchangesMessage (Ok v))) s l m n t path in
    both_lead narrow x gone s (Ok v) p.back p.between n c (drained x gone s p.front m p.between e p.first p.before) p.second p.after
exchange_leads narrow x gone s (Err fault) l m n c e (inl t) path = inl t.0
exchange_leads narrow x gone s (Err fault) l m n c e (inr (inl t)) path =
    let p = then_parts (DrainsLoopback true) (ExchangesByte {T = Unit {0}} (Err fault)) s l m n t path in
    byte_leads {T = Unit {0}} narrow x gone s (Err fault) p.back p.between n c
    (drained x gone s p.front m p.between e p.first p.before) p.second p.after
exchange_leads narrow x gone s (Err fault) l m n c e (inr (inr t)) path =
    let p = then_parts (DrainsLoopback true) (Then (ExchangesByte {T = Unit {0}} (Ok tt)) (ExchangesMessage {T = Unit {0}} (Err fault)))
    s l m n t path in
    both_lead {T = Unit {0}} narrow x gone s (Err fault) p.back p.between n c
    (drained x gone s p.front m p.between e p.first p.before) p.second p.after
