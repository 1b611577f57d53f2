-- What a wrapper puts behind a type and at a slot.
use Prim.Native.String.{String}

-- what a wrapper puts behind a type, and at a slot
abbrev pub Wrapper : Type 0
Wrapper = String × String
