-- Device trees.
use Rattle.std.specs.Prelude.{◌≡◌, ℕ, ◌+◌, ◌-◌, ◌<◌, ◌≤◌, ◌^◌, ◌⊎◌, List, [], ◌∷◌, Option, Some, None, IsTrue}
use Rattle.std.specs.Prelude.{◌/◌, ◌*◌, ◌==◌, Bool, true, false, zero, suc, if◌then◌else◌, bytes_eq, codes, take, drop}
use Rattle.std.specs.Prelude.{filter, slice_index, length}
use Rattle.std.specs.Int.{w32, from_be_bytes, is_power_of_two}
use Rattle.std.specs.List.{before_first, between, list_any, slice_split}
use Rattle.uart_discovery.specs.declared.port.AddressSpace.TheVariants.{Memory}
use Rattle.uart_discovery.specs.declared.port.PortDescription.{PortDescription}
use Rattle.uart_discovery.specs.declared.tree.blob.Token.{Token}
use Rattle.uart_discovery.specs.declared.tree.blob.Token.TheVariants.{Begin, End, Property, Nothing, Finish}

-- the number in four bytes, the highest first
abbrev pub be32 : List ℕ → ℕ → ℕ
be32 bytes at =
    from_be_bytes w32 (slice_index bytes at ∷ slice_index bytes (at + 1) ∷ slice_index bytes (at + 2)
    ∷ slice_index bytes (at + 3) ∷ [])

-- bytes are a whole device tree that a reader of version 17 can read
pub record IsBlob (bytes : List ℕ) : Type 0 where
  pub magic : be32 bytes 0 ≡ 0xd00d_feed
  pub version : be32 bytes 24 ≤ 17
  pub whole : be32 bytes 4 ≤ length bytes

-- where an address of a bus is on the bus above, by a range of so many addresses
abbrev pub IsTranslated : (address from to size : ℕ) → Option ℕ → Type 0
IsTranslated address from to size (Some found) =
    (from ≤ address) × (address < from + size) × (found + from ≡ to + address)
IsTranslated address from to size None =
    (address < from) ⊎ ((from + size ≤ address) ⊎ (2 ^ 64 ≤ to + (address - from)))

-- a port whose registers are in memory, and a power of two apart
abbrev pub IsInMemory : PortDescription → Type 0
IsInMemory port = (port.space ≡ Memory) × IsTrue (is_power_of_two port.layout.stride)

-- a part of a blob, by where its header has the offset and the size
abbrev pub part_of : List ℕ → (offset size : ℕ) → List ℕ
part_of blob offset size = between (be32 blob offset) (be32 blob offset + be32 blob size) blob

-- the whole blob, without what stands behind it
abbrev pub whole_of : List ℕ → List ℕ
whole_of bytes = take (be32 bytes 4) bytes

-- the tokens of a blob
abbrev pub structure_of : List ℕ → List ℕ
structure_of bytes = part_of (whole_of bytes) 8 36

-- the names of properties
abbrev pub strings_of : List ℕ → List ℕ
strings_of bytes = part_of (whole_of bytes) 12 32

-- the text at a place, up to a byte 0
abbrev pub text_of : List ℕ → ℕ → List ℕ
text_of bytes at = before_first (λ byte. byte == 0) (drop at bytes)

-- the first multiple of four from a place on
abbrev pub aligned : ℕ → ℕ
aligned at = (at + 3) / 4 * 4

-- the token of this kind, of which more is at this place
abbrev pub token_behind : List ℕ → (kind at : ℕ) → Token
token_behind structure kind at =
    if kind == 1 then Begin at (aligned (at + length (text_of structure at) + 1))
    else if kind == 2 then End at
    else if kind == 3
    then Property (be32 structure (at + 4)) (at + 8) (at + 8 + be32 structure at) (aligned (at + 8 + be32 structure at))
    else if kind == 4 then Nothing at
    else Finish

-- the token at a place
unfoldable pub token_of : List ℕ → ℕ → Token
token_of structure at = token_behind structure (be32 structure at) (at + 4)

-- where the token behind a token is
abbrev pub next_of : Token → ℕ
next_of (Begin name next) = next
next_of (End next) = next
next_of (Property name value end next) = next
next_of (Nothing next) = next
next_of Finish = 0

-- so many tokens, from a place on
abbrev pub tokens_from : ℕ → List ℕ → ℕ → List Token
tokens_from zero structure at = []
tokens_from (suc n) structure at =
    token_of structure at ∷ tokens_from n structure (next_of (token_of structure at))

-- all tokens from a place on: each has four bytes at least
abbrev pub all_tokens_from : List ℕ → ℕ → List Token
all_tokens_from structure at = tokens_from (length structure / 4) structure at

-- the value of the first property with a name, of those before a node begins or ends
abbrev pub property_in : (structure strings : List ℕ) → List Token → List ℕ → Option (List ℕ)
property_in structure strings [] name = None
property_in structure strings (Property place value end next ∷ rest) name =
    if bytes_eq (text_of strings place) name then Some (between value end structure)
    else property_in structure strings rest name
property_in structure strings (Nothing next ∷ rest) name = property_in structure strings rest name
property_in structure strings (Begin place next ∷ rest) name = None
property_in structure strings (End next ∷ rest) name = None
property_in structure strings (Finish ∷ rest) name = None

-- the value of a property of the node whose properties begin at this place
abbrev pub property_of : (structure strings : List ℕ) → (node : ℕ) → List ℕ → Option (List ℕ)
property_of structure strings node name = property_in structure strings (all_tokens_from structure node) name

-- where the properties of each node begin, in the order of the tree, up to the end of the structure
abbrev pub nodes_in : List Token → List ℕ
nodes_in [] = []
nodes_in (Begin name next ∷ rest) = next ∷ nodes_in rest
nodes_in (End next ∷ rest) = nodes_in rest
nodes_in (Property name value end next ∷ rest) = nodes_in rest
nodes_in (Nothing next ∷ rest) = nodes_in rest
nodes_in (Finish ∷ rest) = []

-- whether a word is among others
abbrev pub is_among : List (List ℕ) → List ℕ → Bool
is_among [] word = false
is_among (one ∷ rest) word = if bytes_eq word one then true else is_among rest word

-- the names in `compatible` of a port with the registers of a 16550
unfoldable pub is_16550 : List ℕ → Bool
is_16550 name = is_among (
    codes "ns16450" ∷ codes "ns16550" ∷ codes "ns16550a" ∷ codes "ns16750" ∷ codes "ns16850" ∷ codes "snps,dw-apb-uart"
    ∷ codes "intel,xscale-uart" ∷ codes "mrvl,mmp-uart" ∷ codes "nvidia,tegra20-uart" ∷ codes "nxp,lpc3220-uart"
    ∷ codes "altr,16550-FIFO32" ∷ codes "altr,16550-FIFO64" ∷ codes "altr,16550-FIFO128" ∷ []) name

-- whether one of the names in a value is such a name: each ends with a byte 0
abbrev pub has_16550 : List ℕ → Bool
has_16550 value = list_any is_16550 (slice_split (λ byte. byte == 0) value)

abbrev pub says_16550 : Option (List ℕ) → Bool
says_16550 None = false
says_16550 (Some value) = has_16550 value

-- whether a node is a port
abbrev pub is_port : (structure strings : List ℕ) → ℕ → Bool
is_port structure strings node = says_16550 (property_of structure strings node (codes "compatible"))

-- the nodes that are ports, in the order of the tree
abbrev pub ports_in : (structure strings : List ℕ) → List ℕ
ports_in structure strings = filter (is_port structure strings) (nodes_in (all_tokens_from structure 0))

-- the same, of the bytes of a tree
abbrev pub ports_of : List ℕ → List ℕ
ports_of bytes = ports_in (structure_of bytes) (strings_of bytes)
