-- The messages on standard error (own).
use Rattle.std.specs.Prelude.{ℕ, List, codes}

-- the message for a name that no installed library has
abbrev pub not_installed_line : List ℕ
not_installed_line = codes "rlibreg-tool: refused C3 NotInstalled\n"

-- the message for arguments that have none of the forms: the usage
abbrev pub usage_line : List ℕ
usage_line = codes "usage: rlibreg-tool info|check|digest|dump|update DISK, dump DISK commit, file|remove DISK NAME, replace DISK FILE or executable|bindings DISK PROGRAM BASE\n"
