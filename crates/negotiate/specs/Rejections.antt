-- The numbers of an A-ASSOCIATE-RJ (PS3.8 section 9.3.4, Table 9-21).
use Rattle.std.specs.Prelude.{ℕ}

-- ---- results

-- rejected permanent
abbrev pub rejected_permanent : ℕ
rejected_permanent = 1

-- rejected transient
abbrev pub rejected_transient : ℕ
rejected_transient = 2

-- ---- sources

-- the service user
abbrev pub service_user : ℕ
service_user = 1

-- the service provider, ACSE related function
abbrev pub service_provider_acse : ℕ
service_provider_acse = 2

-- the service provider, presentation related function
abbrev pub service_provider_presentation : ℕ
service_provider_presentation = 3

-- ---- reasons of the service user

-- no reason given
abbrev pub no_reason_given : ℕ
no_reason_given = 1

-- application context name not supported
abbrev pub application_context_name_not_supported : ℕ
application_context_name_not_supported = 2

-- calling AE title not recognized
abbrev pub calling_ae_title_not_recognized : ℕ
calling_ae_title_not_recognized = 3

-- called AE title not recognized
abbrev pub called_ae_title_not_recognized : ℕ
called_ae_title_not_recognized = 7

-- ---- reasons of the service provider

-- protocol version not supported, of the service provider's ACSE related function
abbrev pub protocol_version_not_supported : ℕ
protocol_version_not_supported = 2

-- local limit exceeded, of the service provider's presentation related function
abbrev pub local_limit_exceeded : ℕ
local_limit_exceeded = 2
