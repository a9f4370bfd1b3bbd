-- The faults of a field, each with its place. Places count from 0 at the first octet.
use Rattle.std.specs.Prelude.{◌≡◌, ◌≢◌, ℕ, ◌+◌, ◌*◌, ◌<◌, ◌≤◌, ◌⊎◌, not, IsTrue, List, [], ◌∷◌, ◌++◌, length}
use Rattle.std.specs.List.{flat_map}
use Rattle.xid_params.specs.declared.fault.XidFault.{XidFault}
use Rattle.xid_params.specs.declared.fault.XidFault.TheVariants.{Format, Group, Length, Value, Repeated}
use Rattle.xid_params.specs.declared.parameter.Parameter.{Parameter}
use Rattle.xid_params.specs.Parts.{Part, group_octets, parameter_octets, named}
use Rattle.xid_params.specs.Parameters.{identifier_of, accepts, is_low}
use Rattle.xid_params.specs.Offers.{Passes}

abbrev pub place_of : XidFault → ℕ
place_of Format = 0
place_of (Group at) = at
place_of (Length at) = at
place_of (Value at) = at
place_of (Repeated at) = at

-- the place behind 82 and these groups
abbrev pub place_behind : List Part → ℕ
place_behind groups = 1 + length (flat_map group_octets groups)

-- behind an identifier stands no whole length, or less than it says
abbrev pub IsGroupCut : List ℕ → Type 0
IsGroupCut [] = Unit {0}
IsGroupCut (high ∷ []) = Unit {0}
IsGroupCut (high ∷ low ∷ rest) = length rest < 256 * high + low

abbrev pub IsParameterCut : List ℕ → Type 0
IsParameterCut [] = Unit {0}
IsParameterCut (count ∷ rest) = length rest < count

-- what is wrong with a group at this place: it is group 80 behind a group 80, or it is cut
abbrev pub IsGroupWrong : List Part → ℕ → List ℕ → ℕ → XidFault → Type 0
IsGroupWrong groups identifier tail at (Group place) = (place ≡ at) × (identifier ≡ 128) × (named 128 groups ≢ [])
IsGroupWrong groups identifier tail at (Length place) = (place ≡ at + 1) × IsGroupCut tail
IsGroupWrong groups identifier tail at _ = ⊥

-- A group that begins at this place has the fault.
pub record GroupHas (octets : List ℕ) (at : ℕ) (fault : XidFault) : Type 0 where
  pub groups : List Part
  pub identifier : ℕ
  pub tail : List ℕ
  pub passes : Passes octets groups (identifier ∷ tail)
  pub no_end : identifier ≢ 255
  pub at_is : at ≡ place_behind groups
  pub wrong : IsGroupWrong groups identifier tail at fault

-- a parameter that is read stands behind itself
pub record IsRepeated (parts : List Part) (identifier : ℕ) : Type 0 where
  pub parameter : Parameter
  pub identifier_is : identifier ≡ identifier_of parameter
  pub again : named identifier parts ≢ []

-- it has a length that it may not have
pub record HasWrongLength (identifier : ℕ) (tail : List ℕ) : Type 0 where
  pub parameter : Parameter
  pub identifier_is : identifier ≡ identifier_of parameter
  pub count : ℕ
  pub rest : List ℕ
  pub tail_is : tail ≡ count ∷ rest
  pub refused : IsTrue (not (accepts parameter count))

-- it has a length that it may have, and a value that is low
pub record HasLowValue (identifier : ℕ) (tail : List ℕ) : Type 0 where
  pub parameter : Parameter
  pub identifier_is : identifier ≡ identifier_of parameter
  pub value : List ℕ
  pub rest : List ℕ
  pub tail_is : tail ≡ length value ∷ (value ++ rest)
  pub accepted : IsTrue (accepts parameter (length value))
  pub low : IsTrue (is_low parameter value)

-- what is wrong with this value of a parameter at this place
abbrev pub IsValueWrong : Parameter → List ℕ → ℕ → XidFault → Type 0
IsValueWrong parameter value at (Length place) = (place ≡ at + 1) × IsTrue (not (accepts parameter (length value)))
IsValueWrong parameter value at (Value place) =
    (place ≡ at + 2) × IsTrue (accepts parameter (length value)) × IsTrue (is_low parameter value)
IsValueWrong parameter value at _ = ⊥

-- the same by the identifier of a parameter that is read
pub record IsIdentifiedWrong (identifier : ℕ) (value : List ℕ) (at : ℕ) (fault : XidFault) : Type 0 where
  pub parameter : Parameter
  pub identifier_is : identifier ≡ identifier_of parameter
  pub wrong : IsValueWrong parameter value at fault

-- what is wrong with a parameter at this place
abbrev pub IsParameterWrong : List Part → ℕ → List ℕ → ℕ → XidFault → Type 0
IsParameterWrong parts identifier tail at (Repeated place) = (place ≡ at) × IsRepeated parts identifier
IsParameterWrong parts identifier tail at (Length place) = (place ≡ at + 1) × (IsParameterCut tail ⊎ HasWrongLength identifier tail)
IsParameterWrong parts identifier tail at (Value place) = (place ≡ at + 2) × HasLowValue identifier tail
IsParameterWrong parts identifier tail at _ = ⊥

-- In what begins at the place `start`, a parameter that begins at this place has the fault.
pub record ParameterHas (content : List ℕ) (start at : ℕ) (fault : XidFault) : Type 0 where
  pub parts : List Part
  pub identifier : ℕ
  pub tail : List ℕ
  pub whole : content ≡ flat_map parameter_octets parts ++ identifier ∷ tail
  pub at_is : at ≡ start + length (flat_map parameter_octets parts)
  pub wrong : IsParameterWrong parts identifier tail at fault

-- A parameter of a whole group 80 has the fault.
pub record InnerHas (octets : List ℕ) (at : ℕ) (fault : XidFault) : Type 0 where
  pub groups : List Part
  pub content : List ℕ
  pub rest : List ℕ
  pub passes : Passes octets groups (group_octets (record { identifier = 128; value = content }) ++ rest)
  pub inner : ParameterHas content (place_behind groups + 3) at fault

abbrev pub IsNoXid : List ℕ → Type 0
IsNoXid [] = Unit {0}
IsNoXid (first ∷ rest) = first ≢ 130

-- The field doesn't begin with 82.
pub record FormatHas (octets : List ℕ) (at : ℕ) (fault : XidFault) : Type 0 where
  pub begins : IsNoXid octets
  pub at_is : at ≡ 0
  pub fault_is : fault ≡ Format

-- The field has the fault, in what begins at this place: in its format, in a group, or in a parameter of group 80.
abbrev pub Has : List ℕ → ℕ → XidFault → Type 0
Has octets at fault = FormatHas octets at fault ⊎ (GroupHas octets at fault ⊎ InnerHas octets at fault)

-- No fault stands at an earlier place, and of two at one place it is the one in what begins earlier.
pub record IsFirst (Faults : ℕ → XidFault → Type 0) (fault : XidFault) : Type 0 where
  pub at : ℕ
  pub here : Faults at fault
  pub first : (q : ℕ) (other : XidFault) → Faults q other
      → (place_of fault < place_of other) ⊎ ((place_of fault ≡ place_of other) × (at ≤ q))

-- the first fault of a field in order of place
abbrev pub FirstFault : List ℕ → XidFault → Type 0
FirstFault octets fault = IsFirst (Has octets) fault
