-- The keys of commands and of operations of administration.
use Rattle.std.specs.Prelude.{ℕ, List, codes}
use Rattle.opc_http_requests.specs.declared.body_key.BodyKey.{BodyKey}
use Rattle.opc_http_requests.specs.declared.body_key.BodyKey.TheVariants as key

abbrev pub key_text : BodyKey → List ℕ
key_text key.Text = codes "text"
key_text key.Op = codes "op"
key_text key.Id = codes "id"
key_text key.Special = codes "special"
key_text key.Auditor = codes "auditor"
key_text key.Revoked = codes "revoked"
key_text key.Digest = codes "digest"
key_text key.Restricted = codes "restricted"
key_text key.Name = codes "name"
key_text key.User = codes "user"
key_text key.Group = codes "group"
key_text key.Class = codes "class"
key_text key.Pattern = codes "pattern"
key_text key.Owner = codes "owner"
key_text key.Uacc = codes "uacc"
key_text key.Warning = codes "warning"
key_text key.Level = codes "level"
key_text key.When = codes "when"
key_text key.Active = codes "active"
key_text key.Auth = codes "auth"
key_text key.Mode = codes "mode"
