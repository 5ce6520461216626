-- UTF-8 as the ABNF of RFC 3629, section 4, gives it: which lists of octets are a UTF8-octets.
use Rattle.std.specs.Prelude.{ℕ, ◌≤◌, List, [], ◌∷◌, ◌++◌}

-- %xLO-HI: the octet b is one of the range
abbrev pub Octet : ℕ → ℕ → ℕ → Type 0
Octet lo hi b = (lo ≤ b) × (b ≤ hi)

-- UTF8-tail = %x80-BF
abbrev pub Tail : ℕ → Type 0
Tail b = Octet 0x80 0xBF b

-- UTF8-char = UTF8-1 / UTF8-2 / UTF8-3 / UTF8-4
pub data Utf8Char : List ℕ → Type 0 where
  -- UTF8-1 = %x00-7F
  utf8_1 : {a : ℕ} → Octet 0x00 0x7F a → Utf8Char (a ∷ [])
  -- UTF8-2 = %xC2-DF UTF8-tail
  utf8_2 : {a b : ℕ} → Octet 0xC2 0xDF a → Tail b → Utf8Char (a ∷ b ∷ [])
  -- UTF8-3 = %xE0 %xA0-BF UTF8-tail / %xE1-EC 2( UTF8-tail ) / %xED %x80-9F UTF8-tail / %xEE-EF 2( UTF8-tail )
  utf8_3_E0 : {a b c : ℕ} → Octet 0xE0 0xE0 a → Octet 0xA0 0xBF b → Tail c → Utf8Char (a ∷ b ∷ c ∷ [])
  utf8_3_E1 : {a b c : ℕ} → Octet 0xE1 0xEC a → Tail b → Tail c → Utf8Char (a ∷ b ∷ c ∷ [])
  utf8_3_ED : {a b c : ℕ} → Octet 0xED 0xED a → Octet 0x80 0x9F b → Tail c → Utf8Char (a ∷ b ∷ c ∷ [])
  utf8_3_EE : {a b c : ℕ} → Octet 0xEE 0xEF a → Tail b → Tail c → Utf8Char (a ∷ b ∷ c ∷ [])
  -- UTF8-4 = %xF0 %x90-BF 2( UTF8-tail ) / %xF1-F3 3( UTF8-tail ) / %xF4 %x80-8F 2( UTF8-tail )
  utf8_4_F0 : {a b c d : ℕ} → Octet 0xF0 0xF0 a → Octet 0x90 0xBF b → Tail c → Tail d → Utf8Char (a ∷ b ∷ c ∷ d ∷ [])
  utf8_4_F1 : {a b c d : ℕ} → Octet 0xF1 0xF3 a → Tail b → Tail c → Tail d → Utf8Char (a ∷ b ∷ c ∷ d ∷ [])
  utf8_4_F4 : {a b c d : ℕ} → Octet 0xF4 0xF4 a → Octet 0x80 0x8F b → Tail c → Tail d → Utf8Char (a ∷ b ∷ c ∷ d ∷ [])

-- UTF8-octets = *( UTF8-char )
pub data Utf8Octets : List ℕ → Type 0 where
  none : Utf8Octets []
  more : {c s : List ℕ} → Utf8Char c → Utf8Octets s → Utf8Octets (c ++ s)
