-- What reading a credential's parameters gives.
use Rattle.xdr.specs.Item.{Value}
use Rattle.nfs_items.specs.Credentials.{authsys_parms}
use Rattle.nfs_items.specs.declared.credential.Parameters.{Parameters}

-- the value of parameters
abbrev pub parameters_value : Parameters → Value authsys_parms
parameters_value p = (p.stamp, (p.machine_name.now, (p.uid, (p.gid, p.gids))))
