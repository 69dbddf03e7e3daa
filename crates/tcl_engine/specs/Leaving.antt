-- What calls leave of a host, one after another.
use Rattle.std.proofs.Common.{Bool, false, refl, ◌∙◌}
use Rattle.tcl_engine.specs.Hosts.{HostLeaves}
use Rattle.tcl_engine.specs.declared.host.Host.{Host}

module _ {V : Type 0} (leaves : Bool → V → V → Type 0) where
  -- a call that does nothing leaves all
  pub leaves_same : ((d : V) → leaves false d d) → (h : Host V) → HostLeaves leaves false h h
  leaves_same same h = record { frames = refl; table = refl; codes = refl; devices = refl; dialect = refl; left = same h.devices.now }

  -- calls in which no device failed, and one after them
  pub leaves_then : ((io : Bool) (a b c : V) → leaves false a b → leaves io b c → leaves io a c)
      → (io : Bool) (a b c : Host V) → HostLeaves leaves false a b → HostLeaves leaves io b c → HostLeaves leaves io a c
  leaves_then onward io a b c first second = record {
    frames = second.frames ∙ first.frames;
    table = second.table ∙ first.table;
    codes = second.codes ∙ first.codes;
    devices = second.devices ∙ first.devices;
    dialect = second.dialect ∙ first.dialect;
    left = onward io a.devices.now b.devices.now c.devices.now first.left second.left;
  }
